-- The turns of the streams that are printed. No public clause cites this module.
use Rattle.std.specs.Prelude.{◌≡◌, ℕ, ◌≤◌, ◌⊎◌, Bool, nat_lt, List, Contains, IsTrue, length, map}
use Rattle.std.specs.List.{filter}
use Rattle.std.specs.List.Sorted.{IsNonDecreasingBy, IsPermutation}
use Rattle.epoch_draft.specs.Turns.{HaveTurns, turn_of}
use Rattle.epoch_draft.specs.declared.turns.Turns.{Turns}
use Rattle.epoch_engine.specs.declared.listing.Due.{Due}
use Rattle.epoch_engine.specs.declared.prints.Prints.{Prints}

-- a stream that isn't one of these has no turn
abbrev pub OthersHaveNone : List ℕ → Turns → Type 0
OthersHaveNone outs turns = (stream : ℕ) → (turn_of turns stream ≡ 0) ⊎ Contains outs stream

-- these streams have their turns, and no others have one
pub record AreInTurn (outs : List ℕ) (turns : Turns) : Type 0 where
  pub in_turn : HaveTurns outs turns
  pub others : OthersHaveNone outs turns

-- there is room for so many streams at least, no stream has a turn that isn't printed, and where each is printed once, those that are have theirs
pub record ArePrints (outs : List ℕ) (streams : ℕ) (prints : Prints) : Type 0 where
  pub many : streams ≤ length prints.turns.given
  pub others : OthersHaveNone outs prints.turns
  pub in_turn : IsTrue prints.are_once → HaveTurns outs prints.turns

-- a stream left those that are printed: the others that have turns are printed still, and where each was printed once, it is printed no more
pub record HasLeft (stream : ℕ) (outs : List ℕ) (prints : Prints) : Type 0 where
  pub others : (other : ℕ) → (turn_of prints.turns other ≡ 0) ⊎ ((other ≡ stream) ⊎ Contains outs other)
  pub in_turn : IsTrue prints.are_once → HaveTurns outs prints.turns
  pub gone : IsTrue prints.are_once → ¬ Contains outs stream

-- whether a stream has a turn
abbrev pub is_printed : Turns → ℕ → Bool
is_printed turns stream = nat_lt 0 (turn_of turns stream)

-- a stream with its turn
abbrev pub due_of : Turns → ℕ → Due
due_of turns stream = record { turn = turn_of turns stream; stream = stream }

-- streams are those of some that have a turn, in the order of their turns
pub record AreListed (turns : Turns) (due streams : List ℕ) : Type 0 where
  pub noted : List Due
  pub same : IsPermutation (map (due_of turns) (filter (is_printed turns) due)) noted
  pub rise : IsNonDecreasingBy (λ due. due.turn) noted
  pub are : streams ≡ map (λ due. due.stream) noted
