-- What a caller has to see to before an expression is evaluated over streams.
use Rattle.std.specs.Prelude.{ℕ, zero, suc, ⊤, ◌<◌, length, List, Some, None}
use Rattle.std.specs.List.{All}
use Rattle.event_types.specs.Tuple.{TupleView}
use Rattle.semantics.specs.Scalars.{Sc, Pr}
use Rattle.semantics.specs.Denotation.{Streams, denote}
use Rattle.semantics.specs.Expressions.{Ex, Read, Filter, Select, Union, Next, Fold}
use Rattle.semantics.specs.Runs.{goers, rebound}
use Rattle.scalar_expr.specs.Fits.{AllFit, Fits}

-- the condition fits each tuple, without a binding
abbrev pub FitsEach : List Pr → List TupleView → Type 0
FitsEach condition tuples = All (λ tuple. AllFit condition tuple None) tuples

-- the condition fits each tuple with the binding
abbrev pub FitsPairs : List Pr → List TupleView → TupleView → Type 0
FitsPairs condition tuples binding = All (λ tuple. AllFit condition tuple (Some binding)) tuples

-- along the runs of at most a number of events, the conditions and the scalars fit what they meet
abbrev pub SuitsRuns : ℕ → List Pr → List Pr → List Sc → List TupleView → TupleView → Type 0
SuitsRuns zero choose on parts tuples binding = ⊤
SuitsRuns (suc most) choose on parts tuples binding =
    FitsPairs choose tuples binding × FitsPairs on tuples binding
    × All (λ event. All (λ s. Fits s event (Some binding)) parts × SuitsRuns most choose on parts tuples (rebound parts binding event)) (goers choose on tuples binding)

-- each stream that is read is among the first so many, and the conditions and the scalars fit the tuples that they meet
abbrev pub Suits : Ex → ℕ → Streams → Type 0
Suits (Read stream) count streams = stream < count
Suits (Filter p e) count streams = Suits e count streams × FitsEach p (denote e streams)
Suits (Select m e) count streams = Suits e count streams × All (λ tuple. All (λ s. Fits s tuple None) m.parts) (denote e streams)
Suits (Union e f) count streams = Suits e count streams × Suits f count streams
Suits (Next p e f) count streams = Suits e count streams × Suits f count streams × All (FitsPairs p (denote f streams)) (denote e streams)
Suits (Fold p q m e f) count streams =
    Suits e count streams × Suits f count streams
    × All (λ binding. SuitsRuns (length (denote f streams)) p q m.parts (denote f streams) binding) (denote e streams)
