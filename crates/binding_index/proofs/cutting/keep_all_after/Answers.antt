use Rattle.std.proofs.Common.{Some, arith}
use Rattle.semantics.specs.Births.{is_after}
use Rattle.binding_index.proofs.ExpiryLemmas.{all_purged, kept_distinct, kept_on}
use Rattle.binding_index.proofs.cutting.keep_all_after.Goals as goal

pub cut_at-filled-requires-clause-distinct : goal.cut_at-filled-requires-clause-distinct
cut_at-filled-requires-clause-distinct c =
    kept_distinct (λ instance. is_after (Some c.args.birth) instance.first) c.args.buckets.now.entries c.loop-place.buckets.entries c.loop-place.invariant.5 c.requires.distinct

pub loop-place-preserved : goal.loop-place-preserved
loop-place-preserved c = (
  c.cut_at-filled.ensures.near,
  c.cut_at-filled.ensures.within,
  c.cut_at-filled.ensures.room,
  c.cut_at-filled.ensures.split,
  c.cut_at-filled.ensures.starts,
  kept_on (λ instance. is_after (Some c.args.birth) instance.first) c.args.buckets.now.entries c.loop-place.buckets.entries c.cut_at-filled.new.buckets.entries c.loop-place.invariant.5 c.cut_at-filled.ensures.began,
  c.cut_at-filled.ensures.from,
)

-- the walk came to the first place
pub returns-clause-purged : goal.returns-clause-purged
returns-clause-purged c =
    all_purged (λ instance. is_after (Some c.args.birth) instance.first) c.args.buckets.now.entries c.loop-place.buckets.entries c.loop-place.invariant.5 (λ n d lt. c.loop-place.invariant.6 n d (let first = c.loop-place-test.false in omega (arith, first)) lt)
