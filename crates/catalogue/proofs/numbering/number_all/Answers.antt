use Rattle.std.proofs.Common.{ℕ, ◌+◌, List, sym, subst, arith}
use Rattle.catalogue.specs.declared.numbering.Published.{Published}
use Rattle.catalogue.proofs.NumberedLemmas.{AreFirst, first_more, first_none, next_numbers}
use Rattle.catalogue.proofs.numbering.number_all.Goals as goal

-- none is there at first
pub loop-place-init : goal.loop-place-init
loop-place-init c =
    subst (λ (s : ℕ × List Published). AreFirst c.args.declared c.args.expressions.now 0 s.0 s.1) (λ i. (c.args.declared + sym c.len.ensures i, sym c.new-published.ensures i)) (first_none c.args.declared c.args.expressions.now)

-- numbers are left for the next query
pub behind_hidden-hidden-requires : goal.behind_hidden-hidden-requires
behind_hidden-hidden-requires c =
    next_numbers c.args.declared c.args.expressions.now c.loop-place.place c.loop-place.hidden c.loop-place.published c.loop-place.invariant (omega (arith, c.len-place-end.ensures, c.loop-place-test.true)) c.get.result.now c.get.ensures
    c.requires.room

-- what it publishes comes to the others
pub loop-place-preserved : goal.loop-place-preserved
loop-place-preserved c =
    first_more c.args.declared c.args.expressions.now c.loop-place.place c.loop-place.hidden c.loop-place.published c.loop-place.invariant (omega (arith, c.len-place-end.ensures, c.loop-place-test.true)) c.get.result.now c.get.ensures
    c.add.new.self c.behind_hidden-hidden.result c.in_ok-add.ensures.ok c.behind_hidden-hidden.ensures
