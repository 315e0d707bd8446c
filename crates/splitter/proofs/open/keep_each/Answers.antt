use Rattle.automaton.specs.declared.step.Stage.TheVariants.{Keep}
use Rattle.splitter.specs.Splitting.{with_stage}
use Rattle.splitter.proofs.EachLemmas.{each_more}
use Rattle.splitter.proofs.open.keep_each.Goals as goal

-- one more line is changed
pub loop-place-preserved : goal.loop-place-preserved
loop-place-preserved c =
    each_more (with_stage (Keep c.args.condition.now)) c.args.lines.now c.loop-place.lines c.loop-place.place c.index-lines-place.result c.keep_one.new.line c.loop-place-test.true c.loop-place.invariant c.in_ok-keep_one.ensures
