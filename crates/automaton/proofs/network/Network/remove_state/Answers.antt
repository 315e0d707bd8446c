use Rattle.std.proofs.Common.{◌≡◌, ◌∙◌, IsTrue, [], None, ap, set, subst, sym}
use Rattle.automaton.specs.Changes.{RemovesState}
use Rattle.automaton.specs.States.{Net, before_at, edges_at, is_used}
use Rattle.automaton.proofs.ChangedLemmas.{from_below, from_one, state_left, state_removed}
use Rattle.automaton.proofs.network.Network.remove_state.Goals as goal

-- the state before it is there
pub drop_edge-requires-clause-below : goal.drop_edge-requires-clause-below
drop_edge-requires-clause-below c =
    let used = subst (λ (net : Net). IsTrue (is_used net c.args.number)) (sym c.self.view_is) c.requires.used in
    let last = subst (λ (net : Net). edges_at net c.args.number ≡ []) (sym c.self.view_is) c.requires.last in
    from_below c.args.number c.self.inside.slots.items used last c.self.invariant.2 c.before-before.result (c.before-before.ensures ∙ ap (λ (net : Net). before_at net c.args.number) (sym c.self.view_is))

-- and one edge leads from there
pub drop_edge-requires-clause-one : goal.drop_edge-requires-clause-one
drop_edge-requires-clause-one c =
    let used = subst (λ (net : Net). IsTrue (is_used net c.args.number)) (sym c.self.view_is) c.requires.used in
    let last = subst (λ (net : Net). edges_at net c.args.number ≡ []) (sym c.self.view_is) c.requires.last in
    from_one c.args.number c.self.inside.slots.items used last c.self.invariant.2 c.before-before.result (c.before-before.ensures ∙ ap (λ (net : Net). before_at net c.args.number) (sym c.self.view_is))

-- the state leaves
pub invariant_of-self : goal.invariant_of-self
invariant_of-self c =
    let used = subst (λ (net : Net). IsTrue (is_used net c.args.number)) (sym c.self.view_is) c.requires.used in
    let last = subst (λ (net : Net). edges_at net c.args.number ≡ []) (sym c.self.view_is) c.requires.last in
    let from = c.before-before.ensures ∙ ap (λ (net : Net). before_at net c.args.number) (sym c.self.view_is) in
    let held = state_left c.args.number c.self.inside.slots.items used last c.self.invariant.2 c.before-before.result from c.drop_edge.new.slots.items c.drop_edge.ensures c.self.inside.states c.self.invariant.0 in
    (held.0, c.self.invariant.1, held.1)

-- with its edge
pub returns : goal.returns
returns c =
    let used = subst (λ (net : Net). IsTrue (is_used net c.args.number)) (sym c.self.view_is) c.requires.used in
    let last = subst (λ (net : Net). edges_at net c.args.number ≡ []) (sym c.self.view_is) c.requires.last in
    let from = c.before-before.ensures ∙ ap (λ (net : Net). before_at net c.args.number) (sym c.self.view_is) in
    let removes = state_removed c.args.number c.self.inside.slots.items used last c.self.invariant.2 c.before-before.result from c.drop_edge.new.slots.items c.drop_edge.ensures in
    subst (λ (net : Net). RemovesState c.args.number net (set c.drop_edge.new.slots.items c.args.number None)) c.self.view_is removes
