use Rattle.std.proofs.Common.{◌-◌, ◌^◌}
use Rattle.binding_index.proofs.PairLemmas.{pairs_more}
use Rattle.binding_index.proofs.directory.count_pairs.Goals as goal

pub loop-place-preserved : goal.loop-place-preserved
loop-place-preserved c =
    pairs_more c.args.states.now.entries c.loop-place.place c.index.result.now (2 ^ 64 - 1) c.loop-place.count c.len.result c.saturating_add-count.result c.index.ensures c.loop-place.invariant c.len.ensures c.saturating_add-count.ensures
