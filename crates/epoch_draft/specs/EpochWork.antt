-- The tests of conditions that the closing of an epoch may take, whatever it answers.
use Rattle.std.specs.Prelude.{ℕ, ◌+◌, ◌≤◌, List, [], ◌∷◌, length, Option, sum_by}
use Rattle.std.specs.List.{range_with_len}
use Rattle.event_types.specs.Tuple.{TupleView}
use Rattle.binding_index.specs.declared.store.Store.{Store}
use Rattle.semantics.specs.Denotation.{Streams, streams_of}
use Rattle.semantics.specs.Programs.{with_stream}
use Rattle.automaton.specs.States.{Net}
use Rattle.automaton.specs.declared.layout.Layout.{Layout}
use Rattle.epoch_laws.specs.Closing.{Stores, given_by_ends}
use Rattle.epoch_draft.specs.Deriving.{news_of}
use Rattle.epoch_draft.specs.Held.{held}
use Rattle.epoch_draft.specs.Takes.{take_work, takes_work}
use Rattle.epoch_draft.specs.Tests.{tuple_work}
use Rattle.epoch_draft.specs.declared.draft.Pair.{Pair}

-- the tests of the tuples that were heard on so many streams, where each tuple has its tests by its stream
abbrev pub heard_tests : (ℕ → TupleView → ℕ) → ℕ → Streams → ℕ
heard_tests tests streams heard = sum_by (λ stream. sum_by (tests stream) (heard stream)) (range_with_len 0 streams)

-- the tests of the derived tuples: in the order of work each stream has what its ends give over the streams so far
abbrev pub derived_tests : (ℕ → TupleView → ℕ) → Net → List ℕ → Stores → Streams → ℕ
derived_tests tests net [] stores news = 0
derived_tests tests net (stream ∷ order) stores news =
    sum_by (tests stream) (given_by_ends net news stores stream) + derived_tests tests net order stores (with_stream news stream (given_by_ends net news stores stream))

-- the tests of all tuples of an epoch: those that were heard, and the derived ones
abbrev pub epoch_tests : (ℕ → TupleView → ℕ) → Net → Layout → Stores → Streams → ℕ
epoch_tests tests net layout stores heard = heard_tests tests (length layout.kinds) heard + derived_tests tests net layout.order stores heard

-- the tests by which the derived tuples are met
abbrev pub derived_work : Net → List ℕ → Stores → Streams → ℕ
derived_work net order stores heard = derived_tests (tuple_work net stores) net order stores heard

-- the tests by which all tuples of an epoch are met
abbrev pub draw_work : Net → Layout → Stores → Streams → ℕ
draw_work net layout stores heard = epoch_tests (tuple_work net stores) net layout stores heard

-- the tests by which the instances are taken out that tuples match which were heard
abbrev pub heard_taking : Net → Layout → Stores → Streams → ℕ
heard_taking net layout stores heard = heard_tests (take_work net stores) (length layout.kinds) heard

-- the tests by which the instances that all tuples of an epoch match are taken out
abbrev pub taking_work : Net → Layout → Stores → Streams → ℕ
taking_work net layout stores heard = epoch_tests (take_work net stores) net layout stores heard

-- both together: no closing makes more tests
abbrev pub epoch_work : Net → Layout → Stores → Streams → ℕ
epoch_work net layout stores heard = draw_work net layout stores heard + taking_work net layout stores heard

-- the tests by which pairs take out what they match, over the tuples of an epoch as far as they are made
abbrev pub pairs_work : Net → List ℕ → List (Option Store) → List (List TupleView) → List (List TupleView) → List Pair → ℕ
pairs_work net done stores opened made pairs = takes_work net (news_of opened made done) (held stores) pairs

-- the pairs that are drawn of an epoch take out by no more tests than its tuples have
abbrev pub TakesNoMore : Net → Layout → List (Option Store) → List (List TupleView) → List (List TupleView) → List Pair → Type 0
TakesNoMore net layout stores opened made pairs = pairs_work net layout.order stores opened made pairs ≤ taking_work net layout (held stores) (streams_of opened)

-- the pairs that are drawn of the tuples that were heard take out by no more tests than these tuples have
abbrev pub HeardTakesNoMore : Net → Layout → List (Option Store) → List (List TupleView) → List (List TupleView) → List Pair → Type 0
HeardTakesNoMore net layout stores opened made pairs = pairs_work net [] stores opened made pairs ≤ heard_taking net layout (held stores) (streams_of opened)
