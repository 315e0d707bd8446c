use Rattle.std.proofs.Common.{◌∙◌, ap, subst, sym}
use Rattle.automaton.specs.Changes.{AddsHop}
use Rattle.automaton.specs.States.{Net, is_used}
use Rattle.prefix_merge.specs.Buckets.{AreInBuckets, IsPut}
use Rattle.prefix_merge.specs.Holders.{AreHolders}
use Rattle.prefix_merge.specs.Merging.{IsLowestFree}
use Rattle.prefix_merge.specs.Places.{AreFree}
use Rattle.prefix_merge.proofs.BucketLemmas.{buckets_more, failed, put_and_taken, succeeded}
use Rattle.prefix_merge.proofs.FreeLemmas.{free_listed, hop_taken, lowest_listed}
use Rattle.prefix_merge.proofs.GrowthLemmas.{lowest_within}
use Rattle.prefix_merge.proofs.HolderLemmas.{holders_same, hop_ends}
use Rattle.prefix_merge.proofs.ReadingLemmas.{no_readers, readers_changed}
use Rattle.prefix_merge.proofs.indexed.Indexed.add_hop.Goals as goal

-- the number is listed or the next one
pub make_place-requires : goal.make_place-requires
make_place-requires c = lowest_listed c.self.inside.free c.self.inside.network c.self.invariant.3 c.args.number (subst (λ (net : Net). IsLowestFree net c.args.number) (sym c.self.view_is) c.requires.number)

pub add_hop-added-requires-clause-next : goal.add_hop-added-requires-clause-next
add_hop-added-requires-clause-next c = lowest_within c.self.inside.network c.args.number (subst (λ (net : Net). IsLowestFree net c.args.number) (sym c.self.view_is) c.requires.number)

-- it found no room in its bucket
pub invariant_of-self-in_err-put : goal.invariant_of-self-in_err-put
invariant_of-self-in_err-put c =
    let place = c.in_ok-make_place.ensures {u = tt} in
    let same = (c.in_err-put.ensures {u = tt}).kept in (
      (λ hash number. same hash number ∙ c.self.invariant.0 hash number),
      c.self.invariant.1,
      c.self.invariant.2,
      free_listed c.self.inside.free c.make_place.new.free c.self.inside.network c.self.invariant.3 place.same,
    )

-- it couldn't be added, and was taken out again
pub invariant_of-self-then-is_err : goal.invariant_of-self-then-is_err
invariant_of-self-then-is_err c =
    let same = failed c.add_hop-added.result (sym c.is_err.ensures.value ∙ c.if-is_err.true) c.add_hop-added.ensures.kept in
    let place = c.in_ok-make_place.ensures {u = tt} in (
      subst (AreInBuckets c.take_out.new.buckets) (sym same)
          (put_and_taken c.self.inside.buckets c.put.new.buckets c.take_out.new.buckets c.entrance_hash-hash.result c.args.number c.self.inside.network c.self.invariant.0 (c.in_ok-put.ensures {u = tt}).ok c.take_out.ensures),
      subst (AreHolders c.self.inside.holders) (sym same) c.self.invariant.1,
      no_readers c.take.new.self c.add_hop-added.new.self c.take.ensures.after,
      subst (AreFree c.make_place.new.free) (sym same) (free_listed c.self.inside.free c.make_place.new.free c.self.inside.network c.self.invariant.3 place.same),
    )

-- it was added
pub invariant_of-self-else-is_err : goal.invariant_of-self-else-is_err
invariant_of-self-else-is_err c =
    let old = c.self.inside.network in
    let new = c.add_hop-added.new.self in
    let place = c.in_ok-make_place.ensures {u = tt} in
    let added = succeeded c.add_hop-added.result (sym c.is_err.ensures.value ∙ c.if-is_err.false) c.add_hop-added.ensures.added in
    let free = ap (λ (net : Net). is_used net c.args.number) c.self.view_is ∙ c.requires.number.free in
    let listed = free_listed c.self.inside.free c.make_place.new.free old c.self.invariant.3 place.same in (
      buckets_more c.self.inside.buckets c.put.new.buckets c.args.number c.args.before c.args.hop.now old new c.self.invariant.0 free
          (subst (λ hash. IsPut hash c.args.number c.self.inside.buckets c.put.new.buckets) c.entrance_hash-hash.ensures (c.in_ok-put.ensures {u = tt}).ok) added,
      holders_same c.self.inside.holders old new (hop_ends c.args.number c.args.before c.args.hop.now old new free added) c.self.invariant.1,
      readers_changed c.with_hop-readers.result (AddsHop c.args.number c.args.before c.args.hop.now old) new added c.with_hop-readers.ensures,
      subst (λ free. AreFree free new) (sym c.take-else-is_err.ensures) (hop_taken c.make_place.new.free old listed c.args.number c.args.before c.args.hop.now new place.listed added),
    )
