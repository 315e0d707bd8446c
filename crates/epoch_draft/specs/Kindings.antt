-- The kinds of what comes to the states of a network.
use Rattle.std.specs.Prelude.{◌≡◌, ℕ, List, Some, slice_get}
use Rattle.std.specs.List.{All}
use Rattle.event_types.specs.declared.kind.Kind.{Kind}
use Rattle.automaton.specs.LineKinds.{StepGives, WaitGives}
use Rattle.automaton.specs.States.{Net, state_at}
use Rattle.automaton.specs.declared.network.End.{End}
use Rattle.automaton.specs.declared.network.Entrance.{Entrance}
use Rattle.automaton.specs.declared.network.Entrance.TheVariants.{Root, Waiting}
use Rattle.automaton.specs.declared.network.State.{State}

-- for each state, by its number, the kinds of the tuples that leave it and of the bindings that wait there
pub record Kinding : Type 0 where
  pub leaving : ℕ → List Kind
  pub waiting : ℕ → List Kind

-- over streams of these kinds a state is typed as it is entered
abbrev pub EntranceFits : List (List Kind) → Kinding → ℕ → Entrance → Type 0
EntranceFits kinds kinding number (Root stream) = slice_get kinds stream ≡ Some (kinding.leaving number)
EntranceFits kinds kinding number (Waiting before hop) =
    (event : List Kind) × (slice_get kinds hop.wait.stream ≡ Some event) × StepGives hop.step (kinding.leaving before) (kinding.waiting number)
    × WaitGives hop.wait (kinding.waiting number) event (kinding.leaving number)

-- an end is typed over tuples of these kinds, and gives those of its stream
abbrev pub EndFits : List (List Kind) → List Kind → End → Type 0
EndFits kinds leaving end = (out : List Kind) × StepGives end.step leaving out × (slice_get kinds end.out ≡ Some out)

-- all states and ends of a network are typed
abbrev pub StatesFit : List (List Kind) → Net → Kinding → Type 0
StatesFit kinds net kinding = (number : ℕ) (state : State) → state_at net number ≡ Some state
    → EntranceFits kinds kinding number state.entrance × All (EndFits kinds (kinding.leaving number)) state.ends
