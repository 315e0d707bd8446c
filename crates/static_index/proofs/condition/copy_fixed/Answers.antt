use Rattle.std.proofs.Common.{◌≡◌, ◌∙◌, ◌+◌, ◌++◌, ℕ, suc, ap, sym, take, arith}
use Rattle.std.specs.Option.{option_to_list}
use Rattle.scalar_expr.specs.Classes.{class_of_part}
use Rattle.static_index.specs.FixedParts.{fixed_parts}
use Rattle.static_index.proofs.ScanLemmas.{fixed_parts-more}
use Rattle.static_index.proofs.condition.copy_fixed.Goals as goal

pub loop-place-preserved : goal.loop-place-preserved
loop-place-preserved c =
    let more = fixed_parts-more c.args.condition.now c.loop-place.place (class_of_part c.part.result) c.part.ensures in
    c.in_ok-push_any.ensures ∙ ap (λ xs. xs ++ option_to_list c.in_ok-part.part) c.loop-place.invariant
    ∙ ap (λ o. fixed_parts (take c.loop-place.place c.args.condition.now) ++ option_to_list o) c.in_ok-part.ensures
    ∙ sym more ∙ ap (λ k. fixed_parts (take k c.args.condition.now)) (sym (next c.loop-place.place))
  where
    next : (place : ℕ) → place + 1 ≡ suc place
    next place = omega arith
