use Rattle.splitter.specs.Splitting.{with_hop}
use Rattle.splitter.proofs.EachLemmas.{each_more}
use Rattle.splitter.proofs.open.hop_each.Goals as goal

-- one more line is changed
pub loop-place-preserved : goal.loop-place-preserved
loop-place-preserved c =
    each_more (with_hop c.args.wait.now) c.args.lines.now c.loop-place.lines c.loop-place.place c.index-lines-place.result c.hop_one.new.line c.loop-place-test.true c.loop-place.invariant c.in_ok-hop_one.ensures
