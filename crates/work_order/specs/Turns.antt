-- The turns of queries in the order of work and in that of their numbers. No public clause cites this.
use Rattle.std.specs.Prelude.{◌≡◌, ◌<◌, ◌==◌, ℕ, [], ◌∷◌, ◌++◌, List, length, map, AllPairs, Contains, slice_index_or}
use Rattle.std.specs.List.{All, position_or_len, range_with_len}
use Rattle.work_order.specs.declared.turns.Turn.{Turn}

-- the same turns, seen from the other order
abbrev pub flipped : Turn → Turn
flipped turn = record { own = turn.other; other = turn.own }

-- the place at which an own turn stands
abbrev pub rank_in : List Turn → ℕ → ℕ
rank_in turns own = position_or_len (λ turn. own == turn.own) turns

-- so many turns, the first ones, by their turns in the other order
abbrev pub first_turns : List ℕ → ℕ → List Turn
first_turns others many = map (λ own. record { own = own; other = slice_index_or others own 0 }) (range_with_len 0 many)

-- the numbers of queries in the order of work: a query's number is its place in the order of numbers
abbrev pub numbers_by : List Turn → List Turn → List ℕ
numbers_by by_place by_number = map (λ turn. rank_in by_number turn.other) by_place

-- the own turns rise
abbrev pub Rise : List Turn → Type 0
Rise turns = AllPairs (λ earlier later. earlier.own < later.own) turns

-- each query that stands in the one order stands in the other
abbrev pub AreFlips : List Turn → List Turn → Type 0
AreFlips turns others = (turn : Turn) → Contains turns turn → Contains others (flipped turn)

-- the turns rise in both orders, in which the same queries stand, and the next turn is above all of them
pub record AreTurns (by_place by_number : List Turn) (next : ℕ) : Type 0 where
  pub as_many : length by_place ≡ length by_number
  pub places_rise : Rise by_place
  pub numbers_rise : Rise by_number
  pub numbered : AreFlips by_place by_number
  pub placed : AreFlips by_number by_place
  pub places_below : All (λ turn. turn.own < next) by_place
  pub numbers_below : All (λ turn. turn.own < next) by_number

-- a query more stands last in both orders, with the same turn
pub record IsAdded (old_places old_numbers : List Turn) (own : ℕ) (by_place by_number : List Turn) : Type 0 where
  pub places : by_place ≡ old_places ++ record { own = own; other = own } ∷ []
  pub numbers : by_number ≡ old_numbers ++ record { own = own; other = own } ∷ []
