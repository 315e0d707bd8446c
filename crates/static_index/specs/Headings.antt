-- What ids are filed under, and when an event meets it. No public clause cites it.
use Rattle.std.specs.Prelude.{◌≡◌, ℕ, true, List, Option, Some, None, slice_get}
use Rattle.std.specs.Option.{option_map}
use Rattle.event_types.specs.Tuple.{TupleView}
use Rattle.event_types.specs.declared.value.Value.{Value}
use Rattle.semantics.specs.Truth.{is_met, order_of}
use Rattle.semantics.specs.Values.{value_at}
use Rattle.static_index.specs.Spans.{LiesIn}
use Rattle.static_index.specs.declared.entry.Choice.{Choice}
use Rattle.static_index.specs.declared.entry.Choice.TheVariants as choice
use Rattle.static_index.specs.declared.fixed_part.FixedPart.{FixedPart}
use Rattle.static_index.specs.declared.heading.Heading.{Heading}
use Rattle.static_index.specs.declared.heading.Heading.TheVariants as heading
use Rattle.static_index.specs.declared.span.Span.{Span}

-- a fixed part, or a span of numbers
pub data Label : Type 0 where
  Part : FixedPart → Label
  Within : Span → Label

-- the label of a heading, without where its part lies in memory
abbrev pub label : Heading → Label
label (heading.Part part) = Part part.now
label (heading.Span span) = Within span

-- the attribute that a label asks for
abbrev pub attr_of : Label → ℕ
attr_of (Part part) = part.attr
attr_of (Within span) = span.attr

-- a value compares as the part asks, or lies in the span
abbrev pub IsMetBy : Value → Label → Type 0
IsMetBy value (Part part) = is_met part.cmp (order_of value part.lit) ≡ true
IsMetBy value (Within span) = LiesIn span value

-- an event's attribute does, where there is a label
abbrev pub MeetsAny : TupleView → Option Label → Type 0
MeetsAny event None = Unit {0}
MeetsAny event (Some label) = IsMetBy (value_at event (attr_of label)) label

-- the label that is chosen among parts, if there is one
abbrev pub label_of : List FixedPart → Choice → Option Label
label_of parts (choice.Part place) = option_map Part (slice_get parts place)
label_of parts (choice.Span span) = Some (Within span)
