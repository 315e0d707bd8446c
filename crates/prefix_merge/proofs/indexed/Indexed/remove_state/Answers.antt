use Rattle.std.proofs.Common.{◌∙◌, ap, subst, sym}
use Rattle.automaton.specs.Changes.{RemovesState}
use Rattle.automaton.specs.States.{Net, ends_at, is_used}
use Rattle.prefix_merge.specs.Places.{AreFree}
use Rattle.prefix_merge.proofs.BucketLemmas.{buckets_less}
use Rattle.prefix_merge.proofs.FreeLemmas.{state_freed, used_listed}
use Rattle.prefix_merge.proofs.HolderLemmas.{holders_same, left_ends}
use Rattle.prefix_merge.proofs.ReadingLemmas.{readers_changed}
use Rattle.prefix_merge.proofs.indexed.Indexed.remove_state.Goals as goal

-- the number of a state is listed
pub free-requires : goal.free-requires
free-requires c = used_listed c.self.inside.free c.self.inside.network c.self.invariant.3 c.args.number (ap (λ (net : Net). is_used net c.args.number) c.self.view_is ∙ c.requires.used)

-- the others are in their buckets, and each end stands where it stood
pub invariant_of-self : goal.invariant_of-self
invariant_of-self c =
    let old = c.self.inside.network in
    let new = c.remove_state.new.self in
    let used = ap (λ (net : Net). is_used net c.args.number) c.self.view_is ∙ c.requires.used in
    let endless = ap (λ (net : Net). ends_at net c.args.number) c.self.view_is ∙ c.requires.endless in (
      buckets_less c.self.inside.buckets c.take_waiting.new.buckets c.args.number old new c.self.invariant.0 c.take_waiting.ensures c.remove_state.ensures,
      holders_same c.self.inside.holders old new (left_ends c.args.number old new endless c.remove_state.ensures) c.self.invariant.1,
      readers_changed c.without_state.result (RemovesState c.args.number old) new c.remove_state.ensures c.without_state.ensures,
      subst (λ free. AreFree free new) (sym c.free.ensures) (state_freed c.self.inside.free old c.self.invariant.3 c.args.number new (used_listed c.self.inside.free old c.self.invariant.3 c.args.number used) c.remove_state.ensures),
    )
