-- Batches that are made of the tuples of streams. No public clause cites this module.
use Rattle.std.specs.Prelude.{◌≡◌, ℕ, ◌<◌, List, Contains, length}
use Rattle.std.specs.List.{All}
use Rattle.event_types.specs.Tuple.{TupleView}
use Rattle.semantics.specs.Denotation.{streams_of}
use Rattle.epoch_draft.specs.Drafts.{DraftFits}
use Rattle.epoch_engine.specs.Results.{results_of}
use Rattle.epoch_engine.specs.declared.room.Room.{Room}

-- streams are among those that are printed, and have the results of all of them
pub record ArePrinted (outs : List ℕ) (made : List (List TupleView)) (streams : List ℕ) : Type 0 where
  pub among : All (Contains outs) streams
  pub all : results_of streams (streams_of made) ≡ results_of outs (streams_of made)

-- a batch has the results of these streams, by the tuples that were made
abbrev pub IsOfMade : List ℕ → List (List TupleView) → List (ℕ × List TupleView) → Type 0
IsOfMade outs made batch = batch ≡ results_of outs (streams_of made)

-- the draft in a room has a list for each stream that is listed there, and fits its own lists
pub record IsBatch (room : Room) : Type 0 where
  pub within : All (λ stream. stream < length room.drawing.draft.made) room.streams
  pub fits : DraftFits (length room.drawing.draft.made) (length room.drawing.draft.beads) room.drawing.draft
