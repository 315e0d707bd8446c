-- Ids by the span in which a number lies. No public clause cites it.
use Rattle.std.specs.Prelude.{ℕ, ℤ, pos, ◌+ℤ◌, ◌≤ℤ◌, List, [], Option, Some, None, Contains}
use Rattle.std.specs.BTreeMap.{BTreeMap, get}
use Rattle.std.specs.Ordering.{nat_cmp}
use Rattle.event_types.specs.declared.value.Value.{Value}
use Rattle.event_types.specs.declared.value.Value.TheVariants.{Int}
use Rattle.static_index.specs.Buckets.{numbered_ids}
use Rattle.static_index.specs.declared.span.Span.{Span}

-- a value is a whole number, and no less than another
abbrev pub IsFrom : ℤ → Value → Type 0
IsFrom low (Int x) = low ≤ℤ x
IsFrom low value = ⊥

-- a value is a whole number, and at most another
abbrev pub IsUpTo : ℤ → Value → Type 0
IsUpTo high (Int x) = x ≤ℤ high
IsUpTo high value = ⊥

-- a value is a number from a low end on, and at most a reach above it
abbrev pub IsNear : ℤ → ℕ → Value → Type 0
IsNear low reach value = IsFrom low value × IsUpTo (low +ℤ pos reach) value

-- a value is a number in a span
abbrev pub LiesIn : Span → Value → Type 0
LiesIn span value = IsNear span.low span.reach value

-- each id of a low end that a value is near is found
abbrev pub FindsNear : ℕ → Value → BTreeMap ℤ (List ℕ) → List ℕ → Type 0
FindsNear reach value lows found = (low : ℤ) (n : ℕ) → IsNear low reach value → Contains (numbered_ids lows low) n → Contains found n

-- the ids of a low end among the spans of one reach, if there are any
abbrev pub low_ids : Option (BTreeMap ℤ (List ℕ)) → ℤ → List ℕ
low_ids None low = []
low_ids (Some lows) low = numbered_ids lows low

-- the ids of a span
abbrev pub span_ids : BTreeMap ℕ (BTreeMap ℤ (List ℕ)) → Span → List ℕ
span_ids spans span = low_ids (get nat_cmp spans span.reach) span.low

-- each id of a span in which a value lies is found
abbrev pub FindsSpans : Value → BTreeMap ℕ (BTreeMap ℤ (List ℕ)) → List ℕ → Type 0
FindsSpans value spans found = (span : Span) (n : ℕ) → LiesIn span value → Contains (span_ids spans span) n → Contains found n
