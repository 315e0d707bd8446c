-- The turns of streams along an order.
use Rattle.std.specs.Prelude.{◌≡◌, ℕ, ◌+◌, ◌<◌, ◌≤◌, List, Contains, length, slice_index_or, slice_set, take}
use Rattle.std.specs.List.{All, AllPairs}
use Rattle.epoch_draft.specs.declared.turns.Turns.{Turns}

-- the turn of a stream, counted from 1
abbrev pub turn_of : Turns → ℕ → ℕ
turn_of turns stream = slice_index_or turns.given stream 0

-- the turns rise along an order, and none is greater than the last
pub record HaveTurns (order : List ℕ) (turns : Turns) : Type 0 where
  pub rise : AllPairs (λ earlier later. turn_of turns earlier < turn_of turns later) order
  pub within : All (λ stream. (0 < turn_of turns stream) × (turn_of turns stream ≤ turns.last)) order

-- no stream of a list stands there twice
abbrev pub StandOnce : List ℕ → Type 0
StandOnce order = (place : ℕ) → place < length order → Contains (take place order) (slice_index_or order place 0) → ⊥

-- a stream has the next turn, and the others keep theirs
pub record GivesTurn (stream : ℕ) (old new : Turns) : Type 0 where
  pub given : new.given ≡ slice_set old.given stream new.last
  pub last : new.last ≡ old.last + 1
