-- The results of an epoch, by the streams that have some.
use Rattle.std.specs.Prelude.{ℕ, List, [], ◌∷◌}
use Rattle.std.specs.List.{flat_map}
use Rattle.event_types.specs.Tuple.{TupleView}
use Rattle.semantics.specs.Denotation.{Streams}

-- a stream with its tuples, if it has some
abbrev pub result_of : ℕ → List TupleView → List (ℕ × List TupleView)
result_of stream [] = []
result_of stream (tuple ∷ tuples) = (stream, tuple ∷ tuples) ∷ []

-- those of these streams that have tuples, in their order, each with its tuples
abbrev pub results_of : List ℕ → Streams → List (ℕ × List TupleView)
results_of outs tuples_of = flat_map (λ stream. result_of stream (tuples_of stream)) outs
