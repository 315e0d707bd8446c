-- What a caller has to see to before tuples with derivations are tested. No public clause cites this.
use Rattle.std.specs.Prelude.{List, None, Some}
use Rattle.std.specs.List.{All}
use Rattle.event_types.specs.Tuple.{TupleView}
use Rattle.semantics.specs.Scalars.{Pr, Sc}
use Rattle.scalar_expr.specs.Fits.{AllFit, Fits}
use Rattle.derivations.specs.DerivedTuples.{DerivedTuple}

-- the condition fits each tuple, without a binding
abbrev pub FitsAlone : List Pr → List DerivedTuple → Type 0
FitsAlone condition found = All (λ x. AllFit condition x.tuple None) found

-- the condition fits each tuple with the binding
abbrev pub FitsWith : List Pr → List DerivedTuple → TupleView → Type 0
FitsWith condition found binding = All (λ x. AllFit condition x.tuple (Some binding)) found

-- the scalars fit each tuple
abbrev pub FitScalars : List Sc → List DerivedTuple → Type 0
FitScalars parts found = All (λ x. All (λ s. Fits s x.tuple None) parts) found
