-- What an expression denotes: a list of tuples, equal ones as often as they come.
use Rattle.std.specs.Prelude.{ℕ, List, [], ◌++◌, map, None, slice_index_or}
use Rattle.std.specs.List.{filter, flat_map}
use Rattle.event_types.specs.Tuple.{TupleView}
use Rattle.semantics.specs.Scalars.{Pr, Sc}
use Rattle.semantics.specs.Values.{applied}
use Rattle.semantics.specs.Truth.{all_true}
use Rattle.semantics.specs.Nexts.{nexts}
use Rattle.semantics.specs.Runs.{runs}
use Rattle.semantics.specs.Expressions.{Ex, Read, Filter, Select, Union, Next, Fold}

-- the tuples of each stream, by its number
abbrev pub Streams : Type 0
Streams = ℕ → List TupleView

-- the streams that a list has; past its end a stream is empty
abbrev pub streams_of : List (List TupleView) → Streams
streams_of lists stream = slice_index_or lists stream []

-- the tuple with the scalars' values, its times unchanged
abbrev pub selected : List Sc → TupleView → TupleView
selected parts tuple = applied parts tuple None tuple.from tuple.at

-- the values of both, from the start of the left one to the detection of the right one (EDBT 2006, conditional sequence)
abbrev pub joined : TupleView → TupleView → TupleView
joined left right = record { vals = left.vals ++ right.vals; from = left.from; at = right.at }

-- the left tuple joined with each of its nexts
abbrev pub matches : List Pr → List TupleView → TupleView → List TupleView
matches condition tuples left = map (joined left) (nexts condition left tuples)

-- the tuples that an expression stands for (EDBT 2006, selection, projection, union, conditional sequence and iteration)
abbrev pub denote : Ex → Streams → List TupleView
denote (Read stream) streams = streams stream
denote (Filter p e) streams = filter (λ tuple. all_true p tuple None) (denote e streams)
denote (Select m e) streams = map (selected m.parts) (denote e streams)
denote (Union e f) streams = denote e streams ++ denote f streams
denote (Next p e f) streams = flat_map (matches p (denote f streams)) (denote e streams)
denote (Fold p q m e f) streams = flat_map (runs p q m.parts (denote f streams)) (denote e streams)
