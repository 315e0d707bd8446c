use Rattle.std.proofs.Common.{subst, ℕ, List}
use Rattle.binding_index.specs.Buckets.{IsSplitAside}
use Rattle.binding_index.proofs.NotedLemmas.{same_on}
use Rattle.binding_index.proofs.emptied.arrange_noted.Goals as goal

pub loop-place-preserved : goal.loop-place-preserved
loop-place-preserved c = (
  same_on c.args.buckets.now.entries c.loop-place.buckets.entries c.set_back-filled.new.buckets.entries c.loop-place.invariant.0 c.set_back-filled.ensures.same,
  c.set_back-filled.ensures.within,
  c.set_back-filled.ensures.room,
  c.set_back-filled.ensures.split c.pop.new.self
      (subst (λ (ns : List ℕ). IsSplitAside ns c.loop-place.filled c.loop-place.buckets.entries) c.in-Some.ensures.items c.loop-place.invariant.3),
  c.set_back-filled.ensures.starts,
)
