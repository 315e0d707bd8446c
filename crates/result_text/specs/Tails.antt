-- The tails of result lines: what stands behind a name and its comma, and where it stands among other tails.
use Rattle.std.specs.Prelude.{◌≡◌, ◌≤◌, ℕ, List, [], ◌∷◌, ◌++◌, length, map, option_map, slice_get, slice_range, decimal, IfSome, Some}
use Rattle.std.specs.List.{join_with_byte}
use Rattle.event_types.specs.Tuple.{TupleView}
use Rattle.semantics.specs.Report.{value_text}
use Rattle.result_text.specs.declared.lately.Lately.{Lately}
use Rattle.result_text.specs.declared.lately.Shown.{Shown}

-- the start, the detection and the values, joined by commas, and an LF
abbrev pub tail_text : TupleView → List ℕ
tail_text tuple = join_with_byte 44 (decimal tuple.from ∷ decimal tuple.at ∷ map value_text tuple.vals) ++ 10 ∷ []

-- the tail of the tuple at a place stands among the tails, from the one number up to the other
pub record IsTailOf (tails : List ℕ) (begin end : ℕ) (tuples : List TupleView) (place : ℕ) : Type 0 where
  pub in_order : begin ≤ end
  pub within : end ≤ length tails
  pub tail : option_map tail_text (slice_get tuples place) ≡ Some (slice_range tails begin end)

-- it does so where the tuple is said to be shown
abbrev pub StandsIn : List ℕ → List TupleView → Shown → Type 0
StandsIn tails tuples shown = IsTailOf tails shown.begin shown.end tuples shown.place

-- the tails of both tuples stand there
pub record AreIn (tails : List ℕ) (tuples : List TupleView) (lately : Lately) : Type 0 where
  pub last : IfSome lately.last (StandsIn tails tuples)
  pub before : IfSome lately.before (StandsIn tails tuples)
