use Rattle.std.proofs.Common.{◌≡◌, ◌∙◌, sym, ap, ℕ, suc, ◌+◌, ◌||◌, drop, arith}
use Rattle.std.specs.List.{list_any}
use Rattle.std.proofs.Math.ListN.{drop_of_length-le}
use Rattle.scalar_expr.specs.Classes.{class_of, class_of_part}
use Rattle.stream_readers.specs.Leading.{asks_literal}
use Rattle.stream_readers.proofs.LeadLemmas.{literal_at}
use Rattle.stream_readers.proofs.leading.has_literal.Goals as goal

-- the part here asks for one
pub returns-then-asks_literal : goal.returns-then-asks_literal
returns-then-asks_literal c =
    let parts = c.args.choose.now in
    sym (ap (λ b. b || list_any (λ part. asks_literal (class_of part)) (drop (suc c.loop-place.place) parts)) (sym c.asks_literal.ensures ∙ c.if-asks_literal.true))
    ∙ sym (literal_at parts c.loop-place.place (class_of_part c.part.result) c.part.ensures) ∙ c.loop-place.invariant

-- one part more that asks for none
pub loop-place-preserved : goal.loop-place-preserved
loop-place-preserved c =
    let parts = c.args.choose.now in
    ap (λ n. list_any (λ part. asks_literal (class_of part)) (drop n parts)) (next c.loop-place.place)
    ∙ sym (ap (λ b. b || list_any (λ part. asks_literal (class_of part)) (drop (suc c.loop-place.place) parts)) (sym c.asks_literal.ensures ∙ c.if-asks_literal.false))
    ∙ sym (literal_at parts c.loop-place.place (class_of_part c.part.result) c.part.ensures) ∙ c.loop-place.invariant
  where
    next : (place : ℕ) → place + 1 ≡ suc place
    next place = omega arith

-- none of the parts asks for one
pub returns : goal.returns
returns c =
    let parts = c.args.choose.now in
    sym (ap (list_any (λ part. asks_literal (class_of part))) (drop_of_length-le parts (omega arith))) ∙ c.loop-place.invariant
