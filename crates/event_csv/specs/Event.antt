-- What an event line says: an event of a declared stream, or the line's first fault.
use Rattle.std.specs.Prelude.{◌≡◌, ℕ, ◌+◌, ◌==◌, nat_lt, List, [], ◌∷◌, length, Option, Some, None, Result, Ok, Err, if◌then◌else◌, option_map, slice_get, ⊤}
use Rattle.std.specs.Str.{is_utf8}
use Rattle.event_types.specs.declared.kind.Kind.{Kind}
use Rattle.event_types.specs.declared.kind.Kind.TheVariants as kind
use Rattle.event_types.specs.declared.value.Value.{Value}
use Rattle.event_types.specs.declared.value.Value.TheVariants as value
use Rattle.stream_schema.specs.Schema.{Attr, kinds_of}
use Rattle.stream_schema.specs.Streams.{Entry, number_of}
use Rattle.event_csv.specs.Decimals.{units_of}
use Rattle.event_csv.specs.Fields.{line_fields}
use Rattle.event_csv.specs.Lines.{is_empty, is_long}
use Rattle.event_csv.specs.Numbers.{int_of, time_of}
use Rattle.event_csv.specs.declared.event.Seen.{Seen}
use Rattle.event_csv.specs.declared.fault.LineFault.{LineFault}
use Rattle.event_csv.specs.declared.fault.LineFault.TheVariants as fault
use Rattle.event_csv.specs.declared.fault.ReadFail.{ReadFail}
use Rattle.event_csv.specs.declared.fault.ReadFail.TheVariants as fail

-- a start and a detection
abbrev pub Span : Type 0
Span = ℕ × ℕ

-- the times by the start, if there is one, and the detection, if it is a time
abbrev pub span_at : Option ℕ → Option ℕ → Result Span LineFault
span_at start None = Err (fault.BadTime 3)
span_at None (Some at) = Ok (at, at)
span_at (Some from) (Some at) = if nat_lt at from then Err fault.StartAfterDetection else Ok (from, at)

-- the same by a start that is to be a time
abbrev pub span_from : Option ℕ → Option ℕ → Result Span LineFault
span_from None detection = Err (fault.BadTime 2)
span_from (Some from) detection = span_at (Some from) detection

-- the times of the second field and the third: an empty start is the detection
abbrev pub span_of : List ℕ → List ℕ → Result Span LineFault
span_of start detection = if is_empty start then span_at None (time_of detection) else span_from (time_of start) (time_of detection)

-- the value that a field of a kind writes
abbrev pub value_of : Kind → List ℕ → Option Value
value_of kind.Int field = option_map value.Int (int_of field)
value_of kind.Text field = Some (value.Text field)
value_of (kind.Dec places) field = option_map (value.Dec places) (units_of places field)

-- the fault of a field of that number which writes no value of its kind
abbrev pub no_value : Kind → ℕ → LineFault
no_value (kind.Dec places) number = fault.BadDec number places
no_value k number = fault.BadInt number

-- a value before those that follow, or the fault of a field that writes none
abbrev pub value_before : LineFault → Option Value → Result (List Value) LineFault → Result (List Value) LineFault
value_before none None more = Err none
value_before none (Some v) (Ok more) = Ok (v ∷ more)
value_before none (Some v) (Err f) = Err f

-- the values of the fields from that number on, by their kinds
abbrev pub values_of : ℕ → List Kind → List (List ℕ) → Result (List Value) LineFault
values_of number [] fields = Ok []
values_of number (k ∷ kinds) [] = Ok []
values_of number (k ∷ kinds) (field ∷ fields) = value_before (no_value k number) (value_of k field) (values_of (number + 1) kinds fields)

-- the event of a stream with these times and these values
abbrev pub event_with : ℕ → Result Span LineFault → Result (List Value) LineFault → Result Seen LineFault
event_with stream (Err f) values = Err f
event_with stream (Ok span) (Err f) = Err f
event_with stream (Ok span) (Ok vals) = Ok (record { stream = stream; tuple = record { vals = vals; from = span.0; at = span.1 } })

-- the event of a stream by the fields behind the name
abbrev pub event_of : ℕ → List Kind → List (List ℕ) → Result Seen LineFault
event_of stream kinds (start ∷ detection ∷ fields) = event_with stream (span_of start detection) (values_of 4 kinds fields)
event_of stream kinds fields = Err (fault.FieldCount (length kinds + 3) (length fields + 1))

-- the same where there are as many fields as three and the attributes
abbrev pub counted_event : ℕ → List Kind → List (List ℕ) → Result Seen LineFault
counted_event stream kinds fields =
    if length fields + 1 == length kinds + 3 then event_of stream kinds fields
    else Err (fault.FieldCount (length kinds + 3) (length fields + 1))

-- a stream's number with its kinds
abbrev pub stream_with : List (List Attr) → Option ℕ → Option (ℕ × List Kind)
stream_with schemas None = None
stream_with schemas (Some number) = option_map (λ schema. (number, kinds_of schema)) (slice_get schemas number)

-- the stream if STREAM declares it
abbrev pub if_declared : ℕ → Option Entry → Option (ℕ × List Kind)
if_declared number None = None
if_declared number (Some entry) = if entry.declared then Some (number, kinds_of entry.schema) else None

-- the number and the kinds of the declared stream of the name, if there is one
abbrev pub declared_stream : List Entry → Option ℕ → Option (ℕ × List Kind)
declared_stream streams None = None
declared_stream streams (Some number) = if_declared number (slice_get streams number)

-- the event of a stream that may be unknown
abbrev pub known_event : Option (ℕ × List Kind) → List (List ℕ) → Result Seen LineFault
known_event None fields = Err fault.UnknownStream
known_event (Some stream) fields = counted_event stream.0 stream.1 fields

-- the event of the fields of a line, the first of which names its stream
abbrev pub fields_event : List Entry → List (List ℕ) → Result Seen LineFault
fields_event streams [] = Err fault.UnknownStream
fields_event streams (name ∷ fields) = known_event (declared_stream streams (number_of name streams)) fields

-- the same of a line that may have no record
abbrev pub record_event : List Entry → Option (List (List ℕ)) → Result Seen LineFault
record_event streams None = Err fault.UnknownStream
record_event streams (Some fields) = fields_event streams fields

-- the event of a line, or its first fault
abbrev pub event : List Entry → List ℕ → Result Seen LineFault
event streams line =
    if is_long line then Err fault.LineTooLong
    else if is_utf8 line then record_event streams (line_fields line) else Err fault.NotUtf8

-- a refusal tells the fault; want of memory tells nothing
abbrev pub Tells : Result Seen LineFault → ReadFail → Type 0
Tells event (fail.Bad f) = event ≡ Err f
Tells event fail.Memory = ⊤

-- the same of the values
abbrev pub ValuesTell : Result (List Value) LineFault → ReadFail → Type 0
ValuesTell values (fail.Bad f) = values ≡ Err f
ValuesTell values fail.Memory = ⊤
