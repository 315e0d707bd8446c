use Rattle.std.proofs.Common.{◌∙◌, ap, subst, sym}
use Rattle.automaton.specs.States.{Net, is_used}
use Rattle.prefix_merge.specs.Merging.{IsLowestFree}
use Rattle.prefix_merge.specs.Places.{AreFree}
use Rattle.prefix_merge.proofs.BucketLemmas.{buckets_root}
use Rattle.prefix_merge.proofs.FreeLemmas.{free_listed, lowest_listed, root_taken}
use Rattle.prefix_merge.proofs.GrowthLemmas.{lowest_within}
use Rattle.prefix_merge.proofs.HolderLemmas.{holders_same, root_ends}
use Rattle.prefix_merge.proofs.ReadingLemmas.{readers_root}
use Rattle.prefix_merge.proofs.indexed.Indexed.add_root.Goals as goal

-- the number is listed or the next one
pub make_place-requires : goal.make_place-requires
make_place-requires c = lowest_listed c.self.inside.free c.self.inside.network c.self.invariant.3 c.args.number (subst (λ (net : Net). IsLowestFree net c.args.number) (sym c.self.view_is) c.requires)

pub add_root-requires-clause-next : goal.add_root-requires-clause-next
add_root-requires-clause-next c = lowest_within c.self.inside.network c.args.number (subst (λ (net : Net). IsLowestFree net c.args.number) (sym c.self.view_is) c.requires)

-- it came
pub invariant_of-self-2 : goal.invariant_of-self-2
invariant_of-self-2 c =
    let old = c.self.inside.network in
    let new = c.add_root.new.self in
    let place = c.in_ok-make_place.ensures {u = tt} in
    let added = (c.in_ok-add_root.ensures {u = tt}).added in
    let free = ap (λ (net : Net). is_used net c.args.number) c.self.view_is ∙ c.requires.free in
    let listed = free_listed c.self.inside.free c.make_place.new.free old c.self.invariant.3 place.same in (
      buckets_root c.self.inside.buckets c.args.number c.args.stream old new c.self.invariant.0 free added,
      holders_same c.self.inside.holders old new (root_ends c.args.number c.args.stream old new free added) c.self.invariant.1,
      readers_root c.self.inside.readers c.args.number c.args.stream old new free added c.self.invariant.2,
      subst (λ free. AreFree free new) (sym c.take.ensures) (root_taken c.make_place.new.free old listed c.args.number c.args.stream new place.listed added),
    )
