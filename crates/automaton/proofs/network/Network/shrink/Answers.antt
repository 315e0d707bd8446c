use Rattle.std.proofs.Common.{◌-◌, ◌<◌, ◌≡◌, ◌∙◌, ap, false, length, take, subst, sym}
use Rattle.automaton.specs.States.{Net, is_used}
use Rattle.automaton.proofs.ChangedLemmas.{Holds, shrunk_held}
use Rattle.automaton.proofs.network.Network.shrink.Goals as goal

-- a place less
pub invariant_of-self : goal.invariant_of-self
invariant_of-self c =
    let some = subst (λ (net : Net). 0 < length net) (sym c.self.view_is) c.requires.some in
    let free = subst (λ (net : Net). is_used net (length net - 1) ≡ false) (sym c.self.view_is) c.requires.free in
    let holds = shrunk_held c.self.inside.states c.self.inside.slots.items some free (c.self.invariant.0, c.self.invariant.2) in
    let held = subst (λ (net : Net). Holds c.self.inside.states net) (sym (c.truncate.ensures.items ∙ ap (λ n. take (n - 1) c.self.inside.slots.items) (c.len.ensures ∙ c.self.inside.slots.ok.0))) holds in
    (held.0, c.self.invariant.1, held.1)
