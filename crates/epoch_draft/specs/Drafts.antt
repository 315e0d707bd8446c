-- What an epoch brings, as far as it is made.
use Rattle.std.specs.Prelude.{◌≡◌, ℕ, ◌<◌, ◌⊎◌, List, [], ◌++◌, Contains, length, slice_index_or, slice_set}
use Rattle.std.specs.List.{All}
use Rattle.std.specs.List.Sorted.{IsPermutation}
use Rattle.automaton.specs.States.{Net, ends_at}
use Rattle.epoch_draft.specs.Marks.{AreMarks, MarksMore}
use Rattle.epoch_draft.specs.Moves.{Move, bound_of, made_of}
use Rattle.epoch_draft.specs.declared.draft.Draft.{Draft}

-- there is room for so many streams and states, each stream that has tuples is due, and each state that has beads is reached
pub record DraftFits (streams states : ℕ) (draft : Draft) : Type 0 where
  pub made : length draft.made ≡ streams
  pub beads : length draft.beads ≡ states
  pub due : AreMarks draft.due
  pub due_below : length draft.due.flags ≡ streams
  pub reached : AreMarks draft.reached
  pub reached_below : length draft.reached.flags ≡ states
  pub due_all : (stream : ℕ) → (slice_index_or draft.made stream [] ≡ []) ⊎ Contains draft.due.numbers stream
  pub reached_all : (state : ℕ) → (slice_index_or draft.beads state [] ≡ []) ⊎ Contains draft.reached.numbers state

-- a draft without the tuples of a stream
abbrev pub without : Draft → ℕ → Draft
without draft stream = record draft { made = slice_set draft.made stream [] }

-- the streams of all ends stand in an order
abbrev pub EndsIn : Net → List ℕ → Type 0
EndsIn net order = (number : ℕ) → All (λ end. Contains order end.out) (ends_at net number)

-- the streams of all ends are below a number
abbrev pub EndsBelow : Net → ℕ → Type 0
EndsBelow net streams = (number : ℕ) → All (λ end. end.out < streams) (ends_at net number)

-- a draft has room for the states of a network, and for the streams of all ends
pub record IsDraftOf (net : Net) (draft : Draft) : Type 0 where
  pub below : EndsBelow net (length draft.made)
  pub fits : DraftFits (length draft.made) (length net) draft

-- items were put behind those of a list: these, up to order
pub record Adds {X : Type 0} (more old new : List X) : Type 0 where
  pub added : List X
  pub is : new ≡ old ++ added
  pub same : IsPermutation added more

-- each stream that is newly due has tuples
abbrev pub HaveTuples : Draft → Draft → Type 0
HaveTuples old new = (stream : ℕ) → Contains new.due.numbers stream → Contains old.due.numbers stream ⊎ (0 < length (slice_index_or new.made stream []))

-- the draft has besides what these moves make: tuples behind those of the streams, and beads; the streams that were due still are, in front of those that now are, which have tuples
pub record Grows (net : Net) (moves : List Move) (old new : Draft) : Type 0 where
  pub fits : DraftFits (length old.made) (length net) new
  pub due : MarksMore old.due new.due
  pub newly_due : HaveTuples old new
  pub made : (stream : ℕ) → Adds (made_of stream moves) (slice_index_or old.made stream []) (slice_index_or new.made stream [])
  pub bound : (state : ℕ) → IsPermutation (slice_index_or new.beads state []) (slice_index_or old.beads state [] ++ bound_of net state moves)
