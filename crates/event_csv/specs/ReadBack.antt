-- Times, numbers and decimals that are read from the fields that result lines have for them.
use Rattle.std.specs.Prelude.{◌≡◌, ◌<◌, ◌^◌, ℕ, ℤ, true, Some, decimal}
use Rattle.event_types.specs.declared.kind.Kind.TheVariants as kind
use Rattle.event_types.specs.declared.value.Value.TheVariants as value
use Rattle.semantics.specs.Report.{value_text}
use Rattle.semantics.specs.Values.{is_in_range}
use Rattle.event_csv.specs.Event.{value_of}
use Rattle.event_csv.specs.Numbers.{time_of}

-- the field of a start or a detection is read as that time
abbrev pub TimesAreReadAsTheyAreWritten : Type 0
TimesAreReadAsTheyAreWritten = (time : ℕ) → time < 2 ^ 64 → time_of (decimal time) ≡ Some time

-- the field of a whole number from -2^127 to 2^127-1 is read as that number
abbrev pub NumbersAreReadAsTheyAreWritten : Type 0
NumbersAreReadAsTheyAreWritten = (number : ℤ) → is_in_range number ≡ true → value_of kind.Int (value_text (value.Int number)) ≡ Some (value.Int number)

-- the field of a decimal with units from -2^127 to 2^127-1 is read, for a DEC of as many places as its scale, as that decimal
abbrev pub DecimalsAreReadAsTheyAreWritten : Type 0
DecimalsAreReadAsTheyAreWritten = (scale : ℕ) (units : ℤ) → is_in_range units ≡ true → value_of (kind.Dec scale) (value_text (value.Dec scale units)) ≡ Some (value.Dec scale units)
