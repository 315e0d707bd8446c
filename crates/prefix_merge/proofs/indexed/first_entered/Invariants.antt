use Rattle.std.proofs.Common.{◌≡◌, ℕ, take}
use Rattle.std.specs.Prelude.{Contains, Some}
use Rattle.automaton.specs.declared.network.Entrance.TheVariants.{Waiting}
use Rattle.automaton.specs.States.{entrance_at}
use Rattle.prefix_merge.proofs.indexed.first_entered.Given as goal

-- none of the states so far is entered so
abbrev pub invariant-loop-state : goal.invariant-loop-state
invariant-loop-state l = (next : ℕ) → Contains (take l.state-index l.states) next → entrance_at l.network next ≡ Some (Waiting l.before l.hop) → ⊥
