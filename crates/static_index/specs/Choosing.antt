-- Under what a condition is found. No public clause cites it.
use Rattle.std.specs.Prelude.{◌≡◌, ℕ, true, ◌≤◌, ◌<◌, List, length, slice_index_or}
use Rattle.event_types.specs.Tuple.{TupleView}
use Rattle.event_types.specs.declared.comparison.Cmp.{Cmp}
use Rattle.event_types.specs.declared.comparison.Cmp.TheVariants as cmp
use Rattle.semantics.specs.Values.{value_at}
use Rattle.static_index.specs.FixedParts.{all_hold}
use Rattle.static_index.specs.Headings.{MeetsAny, label_of}
use Rattle.static_index.specs.Spans.{LiesIn}
use Rattle.static_index.specs.declared.entry.Choice.{Choice}
use Rattle.static_index.specs.declared.entry.Choice.TheVariants.{Part, Span}
use Rattle.static_index.specs.declared.fixed_part.FixedPart.{FixedPart}
use Rattle.static_index.specs.declared.span.Span as span

-- where all parts hold for an event, it meets what is chosen
abbrev pub Covers : List FixedPart → Choice → Type 0
Covers parts choice = (event : TupleView) → all_hold event parts ≡ true → MeetsAny event (label_of parts choice)

-- the same of a span
abbrev pub LiesWithin : List FixedPart → span.Span → Type 0
LiesWithin parts span = (event : TupleView) → all_hold event parts ≡ true → LiesIn span (value_at event span.attr)

-- an equality comes before a range, and a range before `<>`
abbrev pub rank : Cmp → ℕ
rank cmp.Eq = 0
rank cmp.Ne = 2
rank cmp.Lt = 1
rank cmp.Le = 1
rank cmp.Gt = 1
rank cmp.Ge = 1

-- a span is a range
abbrev pub chosen_rank : Choice → List FixedPart → FixedPart → ℕ
chosen_rank (Part place) parts d = rank (slice_index_or parts place d).cmp
chosen_rank (Span span) parts d = 1

-- no part comes before what is chosen
abbrev pub IsBest : Choice → List FixedPart → Type 0
IsBest choice parts = (place : ℕ) (d : FixedPart) → place < length parts → chosen_rank choice parts d ≤ rank (slice_index_or parts place d).cmp
