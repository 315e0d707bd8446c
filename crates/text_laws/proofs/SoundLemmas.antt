-- No event that is read starts after its detection.
use Rattle.std.proofs.Common.{ℕ, ◌+◌, ◌≤◌, ◌==◌, Bool, true, false, cond, nat_lt, length, List, [], ◌∷◌, ◌≡◌, refl, arith}
use Rattle.std.specs.Prelude.{⊤, Option, Some, None, Result, Ok, Err}
use Rattle.std.specs.List.{flat_map}
use Rattle.std.specs.Str.{is_utf8}
use Rattle.std.proofs.lemmas.Bool.Decides.{nat_tests}
use Rattle.std.proofs.lemmas.List.Elements.{All-append, All-cons, All-nil}
use Rattle.event_types.specs.declared.kind.Kind.{Kind}
use Rattle.event_types.specs.declared.value.Value.{Value}
use Rattle.event_types.specs.Tuple.{IsSound}
use Rattle.semantics.specs.Histories.{Event}
use Rattle.stream_schema.specs.Streams.{Entry, number_of}
use Rattle.event_csv.specs.declared.event.Seen.{Seen}
use Rattle.event_csv.specs.declared.fault.LineFault.{LineFault}
use Rattle.event_csv.specs.declared.fault.LineFault.TheVariants as fault
use Rattle.event_csv.specs.Event.{Span, counted_event, declared_stream, event, event_of, event_with, known_event, record_event, span_at, span_from, span_of, values_of}
use Rattle.event_csv.specs.Fields.{line_fields}
use Rattle.event_csv.specs.Lines.{is_empty, is_long}
use Rattle.event_csv.specs.Numbers.{time_of}
use Rattle.courses.specs.EventLines.{events_in, found_of}
use Rattle.history_laws.specs.LateStarts.{AreSound}

-- an event, if it is one, is sound
abbrev IsSoundIfRead : Result Seen LineFault → Type 0
IsSoundIfRead (Ok seen) = IsSound seen.tuple
IsSoundIfRead (Err why) = ⊤

-- and so is a span
abbrev SpanIsSound : Result Span LineFault → Type 0
SpanIsSound (Ok span) = span.0 ≤ span.1
SpanIsSound (Err why) = ⊤

not_above : (from at : ℕ) → nat_lt at from ≡ false → from ≤ at
not_above from at e = grind (arith, nat_tests)

at_sound : (start detection : Option ℕ) → SpanIsSound (span_at start detection)
at_sound start None = tt
at_sound None (Some at) = omega arith
at_sound (Some from) (Some at) = go (nat_lt at from) refl
  where
    go : (b : Bool) → nat_lt at from ≡ b → SpanIsSound (cond b (Err fault.StartAfterDetection) (Ok (from, at)))
    go true is = tt
    go false is = not_above from at is

from_sound : (start detection : Option ℕ) → SpanIsSound (span_from start detection)
from_sound None detection = tt
from_sound (Some from) detection = at_sound (Some from) detection

span_sound : (start detection : List ℕ) → SpanIsSound (span_of start detection)
span_sound start detection = go (is_empty start)
  where
    go : (b : Bool) → SpanIsSound (cond b (span_at None (time_of detection)) (span_from (time_of start) (time_of detection)))
    go true = at_sound None (time_of detection)
    go false = from_sound (time_of start) (time_of detection)

with_sound : (stream : ℕ) (span : Result Span LineFault) (values : Result (List Value) LineFault) → SpanIsSound span → IsSoundIfRead (event_with stream span values)
with_sound stream (Err why) values sound = tt
with_sound stream (Ok span) (Err why) sound = tt
with_sound stream (Ok span) (Ok vals) sound = sound

fields_sound : (stream : ℕ) (kinds : List Kind) (fields : List (List ℕ)) → IsSoundIfRead (event_of stream kinds fields)
fields_sound stream kinds [] = tt
fields_sound stream kinds (start ∷ []) = tt
fields_sound stream kinds (start ∷ detection ∷ fields) = with_sound stream (span_of start detection) (values_of 4 kinds fields) (span_sound start detection)

counted_sound : (stream : ℕ) (kinds : List Kind) (fields : List (List ℕ)) → IsSoundIfRead (counted_event stream kinds fields)
counted_sound stream kinds fields = go (length fields + 1 == length kinds + 3)
  where
    go : (b : Bool) → IsSoundIfRead (cond b (event_of stream kinds fields) (Err (fault.FieldCount (length kinds + 3) (length fields + 1))))
    go true = fields_sound stream kinds fields
    go false = tt

known_sound : (stream : Option (ℕ × List Kind)) (fields : List (List ℕ)) → IsSoundIfRead (known_event stream fields)
known_sound None fields = tt
known_sound (Some stream) fields = counted_sound stream.0 stream.1 fields

named_sound : (streams : List Entry) (fields : Option (List (List ℕ))) → IsSoundIfRead (record_event streams fields)
named_sound streams None = tt
named_sound streams (Some []) = tt
named_sound streams (Some (name ∷ fields)) = known_sound (declared_stream streams (number_of name streams)) fields

-- what a line says is sound
read_sound : (streams : List Entry) (line : List ℕ) → IsSoundIfRead (event streams line)
read_sound streams line = long (is_long line) (is_utf8 line)
  where
    long : (b c : Bool) → IsSoundIfRead (cond b (Err fault.LineTooLong) (cond c (record_event streams (line_fields line)) (Err fault.NotUtf8)))
    long true c = tt
    long false true = named_sound streams (line_fields line)
    long false false = tt

found_sound : (found : Result Seen LineFault) → IsSoundIfRead found → AreSound (events_in (found_of found))
found_sound (Ok seen) sound = All-cons (λ (event : Event). IsSound event.tuple) _ [] sound (All-nil (λ (event : Event). IsSound event.tuple))
found_sound (Err why) sound = All-nil (λ (event : Event). IsSound event.tuple)

-- so are the events of lines, by induction on them
pub events_sound : (streams : List Entry) (texts : List (List ℕ)) → AreSound (flat_map (λ text. events_in (found_of (event streams text))) texts)
events_sound streams [] = All-nil (λ (event : Event). IsSound event.tuple)
events_sound streams (text ∷ texts) =
    All-append (λ (event : Event). IsSound event.tuple) (events_in (found_of (event streams text))) (flat_map (λ text. events_in (found_of (event streams text))) texts)
    (found_sound (event streams text) (read_sound streams text)) (events_sound streams texts)
