use Rattle.std.proofs.Common.{List, subst, arith}
use Rattle.std.proofs.lemmas.List.{take_all}
use Rattle.expressions.specs.declared.expression.Expr.{Expr}
use Rattle.catalogue.specs.Tallies.{AreTallied}
use Rattle.catalogue.proofs.TallyLemmas.{tallied_next}
use Rattle.catalogue.proofs.tallying.tally_all.Goals as goal

-- one expression more
pub loop-place-preserved : goal.loop-place-preserved
loop-place-preserved c = tallied_next c.args.expressions.now c.loop-place.place c.loop-place.tallies c.tally.new.tallies c.get.result.now c.get.ensures c.loop-place.invariant c.in_ok-tally.ensures.ok

-- and then all are
pub returns : goal.returns
returns c =
    subst (λ (xs : List Expr). AreTallied xs c.loop-place.tallies) (take_all c.loop-place.place c.args.expressions.now (omega (arith, c.loop-place-test.false, c.len-place-end.ensures))) c.loop-place.invariant
