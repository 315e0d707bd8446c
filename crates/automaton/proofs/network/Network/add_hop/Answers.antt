use Rattle.std.proofs.Common.{◌≡◌, ◌∙◌, ◌≤◌, IsTrue, [], ap, false, length, subst, sym}
use Rattle.automaton.specs.declared.network.Entrance.TheVariants as entrance
use Rattle.automaton.specs.declared.network.State.{State}
use Rattle.automaton.specs.Changes.{AddsHop}
use Rattle.automaton.specs.States.{Net, is_used}
use Rattle.automaton.proofs.ChangedLemmas.{hop_added, hop_held}
use Rattle.automaton.proofs.network.Network.add_hop.Goals as goal

-- the waiting state comes
pub invariant_of-self-3 : goal.invariant_of-self-3
invariant_of-self-3 c =
    let next = subst (λ (net : Net). c.args.number ≤ length net) (sym c.self.view_is) c.requires.next in
    let free = subst (λ (net : Net). is_used net c.args.number ≡ false) (sym c.self.view_is) c.requires.free in
    let used = subst (λ (net : Net). IsTrue (is_used net c.args.before)) (sym c.self.view_is) c.requires.before in
    let holds = hop_held c.self.inside.states c.args.number c.args.before c.in_ok-hop.hop c.self.inside.slots.items c.put_hop.new.slots.items c.entered-state.result next free used c.entered-state.ensures c.in_ok-put_hop.ensures.placed (c.self.invariant.0, c.self.invariant.2) in
    (holds.0, c.self.invariant.1, holds.1)

-- with its edge
pub returns-clause-added : goal.returns-clause-added
returns-clause-added c =
    let next = subst (λ (net : Net). c.args.number ≤ length net) (sym c.self.view_is) c.requires.next in
    let free = subst (λ (net : Net). is_used net c.args.number ≡ false) (sym c.self.view_is) c.requires.free in
    let used = subst (λ (net : Net). IsTrue (is_used net c.args.before)) (sym c.self.view_is) c.requires.before in
    let entered_is : c.entered-state.result ≡ record { entrance = entrance.Waiting c.args.before c.args.hop.now; edges = []; ends = [] } =
    c.entered-state.ensures ∙ ap (λ hop. let state : State = record { entrance = entrance.Waiting c.args.before hop; edges = []; ends = [] } in state) c.in_ok-hop.ensures in
    subst (λ (net : Net). AddsHop c.args.number c.args.before c.args.hop.now net c.put_hop.new.slots.items) c.self.view_is
    (hop_added c.self.inside.states c.args.number c.args.before c.args.hop.now c.self.inside.slots.items c.put_hop.new.slots.items c.entered-state.result next free used entered_is c.in_ok-put_hop.ensures.placed)
