use Rattle.automaton.specs.declared.step.Stage.TheVariants.{Make}
use Rattle.splitter.specs.Splitting.{with_stage}
use Rattle.splitter.proofs.EachLemmas.{each_more}
use Rattle.splitter.proofs.open.make_each.Goals as goal

-- one more line is changed
pub loop-place-preserved : goal.loop-place-preserved
loop-place-preserved c =
    each_more (with_stage (Make c.args.projection.now)) c.args.lines.now c.loop-place.lines c.loop-place.place c.index-lines-place.result c.make_one.new.line c.loop-place-test.true c.loop-place.invariant c.in_ok-make_one.ensures
