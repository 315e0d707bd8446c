-- Targets, which name the ways out of root states.
use Rattle.std.specs.Prelude.{◌≡◌, ℕ, ◌<◌, Bool, true, false, IsTrue, List, [], ◌∷◌, ◌++◌, length, map, Option, Some, None, slice_get}
use Rattle.std.specs.List.{range_with_len}
use Rattle.scalar_expr.specs.Classes.{are_fixed}
use Rattle.automaton.specs.States.{Net, edges_at, ends_at, is_used, step_at}
use Rattle.automaton.specs.declared.network.End.{End}
use Rattle.automaton.specs.declared.step.Stage.{Stage}
use Rattle.automaton.specs.declared.step.Stage.TheVariants.{Keep, Make}
use Rattle.stream_readers.specs.Ways.{Into, Out, Way}
use Rattle.stream_readers.specs.declared.target.Target.{Target}
use Rattle.stream_readers.specs.declared.target.Target.TheVariants as target

-- the way out by the end at a place
abbrev pub out_by : Option End → List Way
out_by None = []
out_by (Some end) = Out end ∷ []

-- the way of a target
abbrev pub way_of : Net → Target → List Way
way_of net (target.Edge next) = Into next ∷ []
way_of net (target.End place) = out_by (slice_get (ends_at net place.state) place.place)

-- the step that an end has
abbrev pub step_of : Option End → List Stage
step_of None = []
step_of (Some end) = end.step

-- the step on the way to a target
abbrev pub step_to : Net → Target → List Stage
step_to net (target.Edge next) = step_at net next
step_to net (target.End place) = step_of (slice_get (ends_at net place.state) place.place)

-- whether a step asks nothing but fixed parts, and changes nothing
abbrev pub only_fixed : List Stage → Bool
only_fixed [] = true
only_fixed (Keep condition ∷ []) = are_fixed condition
only_fixed (Keep condition ∷ stage ∷ step) = false
only_fixed (Make m ∷ step) = false

-- a target is there, and tells rightly whether its step asks nothing but fixed parts
abbrev pub IsTarget : Net → Target → Type 0
IsTarget net (target.Edge next) = IsTrue (is_used net next)
IsTarget net (target.End place) = IsTrue (is_used net place.state) × (place.place < length (ends_at net place.state)) × (place.passes ≡ only_fixed (step_to net (target.End place)))

-- the end at a place of a state, with this step, as a target
abbrev pub end_by : ℕ → ℕ → List Stage → Target
end_by number place step = target.End (record { state = number; place = place; passes = only_fixed step })

-- the end at a place of a state, as a target
abbrev pub end_at : Net → ℕ → ℕ → Target
end_at net number place = end_by number place (step_of (slice_get (ends_at net number) place))

-- the targets of a root state with a number: its forward edges, and its ends
abbrev pub targets_at : Net → ℕ → List Target
targets_at net number = map target.Edge (edges_at net number) ++ map (end_at net number) (range_with_len 0 (length (ends_at net number)))
