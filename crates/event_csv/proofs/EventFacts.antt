-- The event of a line that is text, and of one that isn't.
use Rattle.std.proofs.Common.{◌≡◌, ℕ, ◌≤◌, Bool, true, false, List, length, Err, refl}
use Rattle.std.specs.Prelude.{IsUtf8}
use Rattle.std.specs.Str.{is_utf8}
use Rattle.std.proofs.lemmas.Str.{IsUtf8-from_is_utf8, is_utf8-from_IsUtf8}
use Rattle.stream_schema.specs.Streams.{Entry}
use Rattle.event_csv.specs.Event.{event, record_event}
use Rattle.event_csv.specs.Fields.{line_fields}
use Rattle.event_csv.specs.Lines.{line_limit}
use Rattle.event_csv.specs.declared.fault.LineFault.TheVariants as fault
use Rattle.event_csv.proofs.LineFacts.{is_long-no}

-- the event of a text that isn't too long is that of its fields
pub event-text : (streams : List Entry) (line : List ℕ) → length line ≤ line_limit → IsUtf8 line → event streams line ≡ record_event streams (line_fields line)
event-text streams line short text = rw (is_long-no line short, is_utf8-from_IsUtf8 line text) refl

-- a line that isn't UTF-8 has that fault
pub event-not_text : (streams : List Entry) (line : List ℕ) → length line ≤ line_limit → ¬ (IsUtf8 line) → event streams line ≡ Err fault.NotUtf8
event-not_text streams line short other = by (is_utf8 line) refl
  where
    by : (d : Bool) → is_utf8 line ≡ d → event streams line ≡ Err fault.NotUtf8
    by true e = absurd (other (IsUtf8-from_is_utf8 line e))
    by false e = rw (is_long-no line short, e) refl
