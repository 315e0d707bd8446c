-- The table of the faults of an event line, in their order, and what a line without a fault says.
use Rattle.std.specs.Prelude.{◌≡◌, ℕ, ◌+◌, ◌-◌, ◌==◌, nat_lt, Bool, not, ◌||◌, List, [], ◌∷◌, length, drop, slice_index_or, Option, None, is_some, unwrap_or, Result, Ok, Err, if◌then◌else◌}
use Rattle.std.specs.List.{cons_option}
use Rattle.std.specs.Option.{option_map_or}
use Rattle.std.specs.Str.{is_utf8}
use Rattle.event_types.specs.declared.kind.Kind.{Kind}
use Rattle.event_types.specs.declared.value.Value.{Value}
use Rattle.stream_schema.specs.Streams.{Entry, number_of}
use Rattle.event_csv.specs.Event.{declared_stream, event, no_value, value_of}
use Rattle.event_csv.specs.Fields.{line_fields}
use Rattle.event_csv.specs.Lines.{is_empty, is_long}
use Rattle.event_csv.specs.Numbers.{time_of}
use Rattle.event_csv.specs.declared.event.Seen.{Seen}
use Rattle.event_csv.specs.declared.fault.LineFault.{LineFault}
use Rattle.event_csv.specs.declared.fault.LineFault.TheVariants as fault

-- the fields of a line, of which one without a record has none
abbrev pub fields_of : List ℕ → List (List ℕ)
fields_of line = unwrap_or (line_fields line) []

-- the field of a number, counted from 1
abbrev pub field : List (List ℕ) → ℕ → List ℕ
field fields number = slice_index_or fields (number - 1) []

-- the declared stream that the first field names, with the kinds of its attributes
abbrev pub stream_of : List Entry → List (List ℕ) → Option (ℕ × List Kind)
stream_of streams [] = None
stream_of streams (name ∷ fields) = declared_stream streams (number_of name streams)

-- the kinds of its attributes
abbrev pub kinds_in : Option (ℕ × List Kind) → List Kind
kinds_in stream = option_map_or (λ s. s.1) stream []

-- the detection, where field 3 is a time
abbrev pub detection_of : List (List ℕ) → ℕ
detection_of fields = unwrap_or (time_of (field fields 3)) 0

-- the start, where field 2 is a time; an empty one is the detection
abbrev pub start_of : List (List ℕ) → ℕ
start_of fields = if is_empty (field fields 2) then detection_of fields else unwrap_or (time_of (field fields 2)) 0

-- the values that fields write, by their kinds
abbrev pub values : List Kind → List (List ℕ) → List Value
values (kind ∷ kinds) (text ∷ fields) = cons_option (value_of kind text) (values kinds fields)
values kinds fields = []

-- a row of the table: whether the fault is there, and the fault
abbrev pub Row : Type 0
Row = Bool × LineFault

-- for each value field, the first of which has that number: it isn't a value of its kind
abbrev pub value_faults : ℕ → List Kind → List (List ℕ) → List Row
value_faults number (kind ∷ kinds) (text ∷ fields) = (not (is_some (value_of kind text)), no_value kind number) ∷ value_faults (number + 1) kinds fields
value_faults number kinds fields = []

-- the table of the faults of a line, in their order
abbrev pub faults : List Entry → List ℕ → List Row
faults streams line =
    let fields = fields_of line in
    let stream = stream_of streams fields in
    let kinds = kinds_in stream in
    (is_long line, fault.LineTooLong)
    ∷ (not (is_utf8 line), fault.NotUtf8)
    ∷ (not (is_some stream), fault.UnknownStream)
    ∷ (not (length fields == length kinds + 3), fault.FieldCount (length kinds + 3) (length fields))
    ∷ (not (is_empty (field fields 2) || is_some (time_of (field fields 2))), fault.BadTime 2)
    ∷ (not (is_some (time_of (field fields 3))), fault.BadTime 3)
    ∷ (nat_lt (detection_of fields) (start_of fields), fault.StartAfterDetection)
    ∷ value_faults 4 kinds (drop 3 fields)

-- the event that fields without a fault say, by the stream that they name
abbrev pub seen_of : Option (ℕ × List Kind) → List (List ℕ) → Seen
seen_of stream fields = record {
  stream = option_map_or (λ s. s.0) stream 0;
  tuple = record {
    vals = values (kinds_in stream) (drop 3 fields);
    from = start_of fields;
    at = detection_of fields;
  };
}

-- the first fault that is there, or else the event
abbrev pub first_fault : List Row → Seen → Result Seen LineFault
first_fault [] seen = Ok seen
first_fault (row ∷ more) seen = if row.0 then Err row.1 else first_fault more seen

-- a line is read as the first fault of its table, or else as the event that its fields say
abbrev pub LinesHaveTheirFirstFault : Type 0
LinesHaveTheirFirstFault = (streams : List Entry) (line : List ℕ) → event streams line ≡ first_fault (faults streams line) (seen_of (stream_of streams (fields_of line)) (fields_of line))
