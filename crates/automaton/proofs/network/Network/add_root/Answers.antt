use Rattle.std.proofs.Common.{◌≡◌, ◌≤◌, false, length, subst, sym}
use Rattle.automaton.specs.States.{Net, is_used}
use Rattle.automaton.proofs.ChangedLemmas.{root_held}
use Rattle.automaton.proofs.network.Network.add_root.Goals as goal

-- the root state comes
pub invariant_of-self-2 : goal.invariant_of-self-2
invariant_of-self-2 c =
    let next = subst (λ (net : Net). c.args.number ≤ length net) (sym c.self.view_is) c.requires.next in
    let free = subst (λ (net : Net). is_used net c.args.number ≡ false) (sym c.self.view_is) c.requires.free in
    let holds = root_held c.self.inside.states c.args.number c.args.stream c.self.inside.slots.items c.put_slot.new.slots.items c.entered-state.result next free c.entered-state.ensures c.in_ok-put_slot.ensures.placed (c.self.invariant.0, c.self.invariant.2) in
    (holds.0, c.self.invariant.1, holds.1)
