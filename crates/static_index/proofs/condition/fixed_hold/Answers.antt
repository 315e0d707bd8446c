use Rattle.std.proofs.Common.{◌≡◌, ◌∙◌, ◌+◌, ℕ, suc, ap, sym, take, arith}
use Rattle.scalar_expr.specs.Classes.{class_of_part}
use Rattle.static_index.specs.FixedParts.{all_hold, fixed_part_of, fixed_parts}
use Rattle.static_index.proofs.ScanLemmas.{all_hold-fails, all_hold-more, fixed_parts-more}
use Rattle.static_index.proofs.condition.fixed_hold.Goals as goal

pub returns-then-not-is_met : goal.returns-then-not-is_met
returns-then-not-is_met c =
    sym (all_hold-fails c.args.event.now c.args.condition.now c.loop-place.place (class_of_part c.part.result) c.part.ensures (sym c.is_met.ensures ∙ c.if-not-is_met.true))

pub loop-place-preserved : goal.loop-place-preserved
loop-place-preserved c =
    let more = fixed_parts-more c.args.condition.now c.loop-place.place (class_of_part c.part.result) c.part.ensures in
    ap (λ k. all_hold c.args.event.now (fixed_parts (take k c.args.condition.now))) (next c.loop-place.place) ∙ ap (all_hold c.args.event.now) more
    ∙ all_hold-more c.args.event.now _ (fixed_part_of (class_of_part c.part.result)) c.loop-place.invariant (sym c.is_met.ensures ∙ c.if-not-is_met.false)
  where
    next : (place : ℕ) → place + 1 ≡ suc place
    next place = omega arith
