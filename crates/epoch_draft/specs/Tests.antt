-- The tests of conditions that the tuples of streams may take.
use Rattle.std.specs.Prelude.{ℕ, ◌+◌, List, [], slice_index_or, sum_by}
use Rattle.std.specs.List.{filter}
use Rattle.event_types.specs.Tuple.{TupleView}
use Rattle.automaton.specs.States.{Net}
use Rattle.stream_readers.specs.Finding.{waits_on, ways_on}
use Rattle.stream_readers.specs.Ways.{is_state_looked_up, is_way_looked_up}
use Rattle.epoch_laws.specs.Closing.{Stores}
use Rattle.epoch_draft.specs.Work.{state_work, ways_work}

-- the tests of a tuple of a stream: on those ways out of the roots, and at those states on the stream, that are looked up
abbrev pub tuple_work : Net → Stores → ℕ → TupleView → ℕ
tuple_work net stores stream tuple =
    ways_work net (filter (is_way_looked_up net tuple) (ways_on net stream)) + sum_by (state_work net stores tuple) (filter (is_state_looked_up net tuple) (waits_on net stream))

-- the tests of these tuples of a stream
abbrev pub stream_work : Net → Stores → ℕ → List TupleView → ℕ
stream_work net stores stream tuples = sum_by (tuple_work net stores stream) tuples

-- the tests of all tuples of these streams, where the lists have them by stream
abbrev pub streams_work : Net → Stores → List (List TupleView) → List ℕ → ℕ
streams_work net stores lists streams = sum_by (λ stream. stream_work net stores stream (slice_index_or lists stream [])) streams
