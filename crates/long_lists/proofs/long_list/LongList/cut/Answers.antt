use Rattle.std.proofs.Common.{◌∙◌, ap, arith}
use Rattle.std.specs.List.{remove}
use Rattle.event_types.proofs.CutLemmas.{cut_more}
use Rattle.long_lists.proofs.long_list.LongList.cut.Goals as goal

-- one item more is gone
pub loop-preserved : goal.loop-preserved
loop-preserved g c = c.remove.ensures.others ∙ ap (λ xs. remove xs c.args.first) c.loop.invariant ∙ cut_more c.args.self.now c.args.first c.loop.counter c.loop.auto.counter (omega (arith, c.loop-test.true, c.requires.within))
