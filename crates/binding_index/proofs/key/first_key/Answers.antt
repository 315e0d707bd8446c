use Rattle.std.proofs.Common.{◌≡◌, ◌∙◌, sym, ap, suc, drop, arith, ℕ, ◌+◌}
use Rattle.scalar_expr.specs.Classes.{class_of_part}
use Rattle.binding_index.specs.KeyParts.{first_key, key_in}
use Rattle.binding_index.proofs.KeyLemmas.{first_at, is_behind, is_first}
use Rattle.binding_index.proofs.key.first_key.Goals as goal

-- the part has the key, and no part before it has one
pub returns-then-is_some : goal.returns-then-is_some
returns-then-is_some c =
    is_first c.key_of-key.result (key_in (class_of_part c.part.result)) (first_key (drop (suc c.loop-place.place) c.args.condition.now)) (sym c.is_some.ensures ∙ c.if-is_some.true) c.key_of-key.ensures
    ∙ sym (first_at c.args.condition.now c.loop-place.place (class_of_part c.part.result) c.part.ensures) ∙ c.loop-place.invariant

-- it has none, so the key is looked for behind it
pub loop-place-preserved : goal.loop-place-preserved
loop-place-preserved c =
    ap (λ n. first_key (drop n c.args.condition.now)) (next c.loop-place.place)
    ∙ sym (is_behind c.key_of-key.result (key_in (class_of_part c.part.result)) (first_key (drop (suc c.loop-place.place) c.args.condition.now)) (sym c.is_some.ensures ∙ c.if-is_some.false) c.key_of-key.ensures)
    ∙ sym (first_at c.args.condition.now c.loop-place.place (class_of_part c.part.result) c.part.ensures) ∙ c.loop-place.invariant
  where
    next : (place : ℕ) → place + 1 ≡ suc place
    next place = omega arith
