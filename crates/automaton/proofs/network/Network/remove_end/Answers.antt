use Rattle.std.proofs.Common.{◌<◌, IsTrue, length, subst, sym}
use Rattle.std.specs.Prelude.{Option}
use Rattle.automaton.specs.States.{Net, ends_at, ends_in, is_used}
use Rattle.automaton.specs.declared.network.State.{State}
use Rattle.automaton.proofs.ChangedLemmas.{end_left}
use Rattle.automaton.proofs.GrowingLemmas.{same_read}
use Rattle.automaton.proofs.SlotLemmas.{used_below}
use Rattle.automaton.proofs.network.Network.remove_end.Goals as goal

-- an end stands at the place
pub drop_end-requires : goal.drop_end-requires
drop_end-requires c =
    let slots = c.self.inside.slots.items in
    let used = subst (λ (net : Net). IsTrue (is_used net c.args.state)) (sym c.self.view_is) c.requires.used in
    let there = subst (λ (net : Net). c.args.place < length (ends_at net c.args.state)) (sym c.self.view_is) c.requires.there in
    subst (λ (slot : Option State). c.args.place < length (ends_in slot)) (sym (same_read slots c.args.state c.index_mut.result.now (used_below slots c.args.state used) c.index_mut.ensures.value)) there

-- the end leaves
pub invariant_of-self : goal.invariant_of-self
invariant_of-self c =
    let used = subst (λ (net : Net). IsTrue (is_used net c.args.state)) (sym c.self.view_is) c.requires.used in
    let holds = end_left c.self.inside.states c.args.state c.self.inside.slots.items used c.index_mut.result.now c.drop_end.new.slot c.index_mut.ensures.value (c.self.invariant.0, c.self.invariant.2) c.args.place c.drop_end.ensures in
    (holds.0, c.self.invariant.1, holds.1)
