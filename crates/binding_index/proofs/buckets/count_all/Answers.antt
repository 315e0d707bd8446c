use Rattle.std.proofs.Common.{◌-◌, ◌^◌}
use Rattle.binding_index.proofs.MapLemmas.{count_more}
use Rattle.binding_index.proofs.buckets.count_all.Goals as goal

pub loop-place-preserved : goal.loop-place-preserved
loop-place-preserved c =
    count_more c.args.buckets.now.entries c.loop-place.place c.index.result.now (2 ^ 64 - 1) c.loop-place.count c.count.result c.saturating_add-count.result c.index.ensures c.loop-place.invariant c.count.ensures c.saturating_add-count.ensures
