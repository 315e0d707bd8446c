-- The tests of conditions by which instances that were matched are taken out.
use Rattle.std.specs.Prelude.{ℕ, List, length, option_to_list, slice_get, sum_by}
use Rattle.std.specs.List.{filter}
use Rattle.event_types.specs.Tuple.{TupleView}
use Rattle.semantics.specs.Denotation.{Streams}
use Rattle.automaton.specs.States.{Net}
use Rattle.stream_readers.specs.Finding.{waits_on}
use Rattle.stream_readers.specs.Ways.{is_state_looked_up}
use Rattle.epoch_laws.specs.Closing.{Stores}
use Rattle.epoch_draft.specs.Candidates.{candidates_at}
use Rattle.epoch_draft.specs.declared.draft.Pair.{Pair}

-- the tests of a tuple of a stream: one for each instance that it may match as far as the key tells, at each state on the stream that is looked up
abbrev pub take_work : Net → Stores → ℕ → TupleView → ℕ
take_work net stores stream tuple = sum_by (λ number. length (candidates_at net stores tuple number)) (filter (is_state_looked_up net tuple) (waits_on net stream))

-- the tuple of a pair
abbrev pub tuple_of : Streams → Pair → List TupleView
tuple_of news pair = option_to_list (slice_get (news pair.stream) pair.place)

-- the tests by which these pairs take out what matches: one for each instance that the tuple may match
abbrev pub takes_work : Net → Streams → Stores → List Pair → ℕ
takes_work net news stores pairs = sum_by (λ pair. sum_by (λ tuple. length (candidates_at net stores tuple pair.state)) (tuple_of news pair)) pairs
