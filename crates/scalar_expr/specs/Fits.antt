-- What a caller has to see to before scalars and predicates are evaluated over an event and a binding.
use Rattle.std.specs.Prelude.{◌<◌, List, length, Option, Some, None, ⊤}
use Rattle.std.specs.List.{All}
use Rattle.event_types.specs.Tuple.{TupleView}
use Rattle.semantics.specs.Scalars.{Sc, Lit, Event, Binding, Dur, Two, Pr, True, Test, And, Or, Not}

-- each attribute of the scalar is a place of its tuple, and a binding is given where the scalar reads one
abbrev pub Fits : Sc → TupleView → Option TupleView → Type 0
Fits (Lit v) event binding = ⊤
Fits (Event place) event binding = place < length event.vals
Fits (Binding place) event None = ⊥
Fits (Binding place) event (Some binding) = place < length binding.vals
Fits Dur event binding = ⊤
Fits (Two op x y) event binding = Fits x event binding × Fits y event binding

-- the same of each scalar of a predicate
abbrev pub PredFits : Pr → TupleView → Option TupleView → Type 0
PredFits True event binding = ⊤
PredFits (Test x c y) event binding = Fits x event binding × Fits y event binding
PredFits (And p q) event binding = PredFits p event binding × PredFits q event binding
PredFits (Or p q) event binding = PredFits p event binding × PredFits q event binding
PredFits (Not p) event binding = PredFits p event binding

-- the same of each part of a conjunction
abbrev pub AllFit : List Pr → TupleView → Option TupleView → Type 0
AllFit parts event binding = All (λ p. PredFits p event binding) parts

-- the value is computed, and stands nowhere: it is a span or the result of an operation
abbrev pub IsComputed : Sc → Type 0
IsComputed (Lit v) = ⊥
IsComputed (Event place) = ⊥
IsComputed (Binding place) = ⊥
IsComputed Dur = ⊤
IsComputed (Two op x y) = ⊤
