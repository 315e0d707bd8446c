-- The range of numbers that fixed parts ask of one attribute. No public clause cites it.
use Rattle.std.specs.Prelude.{◌≡◌, ℕ, ℤ, Bool, true, false, not, ◌&&◌, int_lt, List, FitsSigned}
use Rattle.std.specs.Int.{w64}
use Rattle.event_types.specs.Tuple.{TupleView}
use Rattle.event_types.specs.declared.value.Value.TheVariants.{Int}
use Rattle.semantics.specs.Values.{value_at}
use Rattle.static_index.specs.FixedParts.{all_hold}
use Rattle.static_index.specs.declared.fixed_part.FixedPart.{FixedPart}
use Rattle.static_index.specs.declared.number_range.NumberRange.{NumberRange}

-- an attribute of an event is a number of 64 bits
abbrev pub HasNumber : TupleView → ℕ → ℤ → Type 0
HasNumber event attr number = FitsSigned w64 number × (value_at event attr ≡ Int number)

-- whether a number lies from a low end to a high end
abbrev pub is_between : ℤ → ℤ → ℤ → Bool
is_between low high number = not (int_lt number low) && not (int_lt high number)

-- where the attribute's number lies outside the range, some part fails; where the range is all that the parts ask, and the number lies within, all hold
pub record Bounds (range : NumberRange) (parts : List FixedPart) : Type 0 where
  pub outside : (event : TupleView) (number : ℤ) → HasNumber event range.attr number → is_between range.low range.high number ≡ false → all_hold event parts ≡ false
  pub within : range.whole ≡ true → (event : TupleView) (number : ℤ) → HasNumber event range.attr number → is_between range.low range.high number ≡ true → all_hold event parts ≡ true
