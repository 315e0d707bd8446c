use Rattle.std.proofs.Common.{◌+◌}
use Rattle.instances.specs.Alive.{is_alive}
use Rattle.binding_index.proofs.ExpiryLemmas.{all_later_there, all_purged, kept_distinct, kept_on}
use Rattle.binding_index.proofs.StartLemmas.{all_from}
use Rattle.binding_index.proofs.expiring.keep_all_alive.Goals as goal

pub expire_at-filled-requires-clause-distinct : goal.expire_at-filled-requires-clause-distinct
expire_at-filled-requires-clause-distinct c =
    kept_distinct (λ instance. is_alive (c.args.now + 1) c.args.condition.now instance.tuple) c.args.buckets.now.entries c.loop-place.buckets.entries c.loop-place.invariant.4 c.requires.distinct

pub loop-place-preserved : goal.loop-place-preserved
loop-place-preserved c = (
  c.expire_at-filled.ensures.within,
  c.expire_at-filled.ensures.room,
  c.expire_at-filled.ensures.split,
  c.expire_at-filled.ensures.starts,
  kept_on (λ instance. is_alive (c.args.now + 1) c.args.condition.now instance.tuple) c.args.buckets.now.entries c.loop-place.buckets.entries c.expire_at-filled.new.buckets.entries c.loop-place.invariant.4 c.expire_at-filled.ensures.alive,
)

-- no time has passed any more
pub returns-clause-purged : goal.returns-clause-purged
returns-clause-purged c =
    all_purged (λ instance. is_alive (c.args.now + 1) c.args.condition.now instance.tuple) c.args.buckets.now.entries c.loop-place.buckets.entries c.loop-place.invariant.4
    (all_later_there (c.args.now + 1) c.earliest_alive-earliest.result c.args.condition.now c.loop-place.buckets.entries c.earliest_alive-earliest.ensures
    (all_from c.earliest_alive-earliest.result c.loop-place.starts c.loop-place.buckets.entries c.in_default.ensures.absent c.loop-place.invariant.1 c.loop-place.invariant.3))
