-- Steps with one more stage, in their canonical form (this project's profile).
use Rattle.std.specs.Prelude.{◌≡◌, ℕ, ◌+◌, ◌-◌, ◌<◌, ◌==◌, ◌&&◌, Bool, true, false, if◌then◌else◌, List, [], ◌∷◌, ◌++◌, length, Option, Some, None, slice_set}
use Rattle.semantics.specs.Scalars.{Pr, Projection, Sc, Event}
use Rattle.scalar_expr.specs.Canonical.{distinct_parts}
use Rattle.automaton.specs.declared.step.Stage.{Stage}
use Rattle.automaton.specs.declared.step.Stage.TheVariants.{Keep, Make}

-- whether the scalars are the attributes of the event from a place on, in their order
abbrev pub are_events : ℕ → List Sc → Bool
are_events place [] = true
are_events place (Event at ∷ parts) = (at == place) && are_events (place + 1) parts
are_events place (s ∷ parts) = false

-- whether the projection gives each tuple of its width as it is
abbrev pub is_identity : Projection → Bool
is_identity m = (length m.parts == m.width) && are_events 0 m.parts

-- the step with one more condition: two Keeps side by side are one Keep of both conditions
abbrev pub kept : List Stage → List Pr → List Stage
kept [] condition = Keep condition ∷ []
kept (Keep other ∷ []) condition = Keep (distinct_parts (other ++ condition)) ∷ []
kept (stage ∷ step) condition = stage ∷ kept step condition

-- the step with one more stage, where an empty Keep and a Make that is the identity are dropped
abbrev pub staged : List Stage → Stage → List Stage
staged step (Keep []) = step
staged step (Keep (p ∷ condition)) = kept step (p ∷ condition)
staged step (Make m) = if is_identity m then step else step ++ Make m ∷ []

-- the condition of both, where the step ends in a Keep, and nothing elsewhere; no public clause cites this
abbrev pub JoinsLast : List Stage → List Pr → Option (List Pr) → Type 0
JoinsLast step condition None = kept step condition ≡ step ++ Keep condition ∷ []
JoinsLast step condition (Some both) = (0 < length step) × (kept step condition ≡ slice_set step (length step - 1) (Keep both))
