-- The part of an event text that has some keys.
use Rattle.std.specs.Prelude.{◌≡◌, ℕ, Bool, true, List, Result, Ok, Err}
use Rattle.std.specs.List.{All, filter, flat_map}
use Rattle.event_types.specs.declared.value.Value.{Value}
use Rattle.semantics.specs.Report.{line, lines_at}
use Rattle.semantics.specs.Results.{results}
use Rattle.semantics.specs.Values.{value_at}
use Rattle.stream_schema.specs.Streams.{Entry}
use Rattle.event_csv.specs.declared.event.Seen.{Seen}
use Rattle.event_csv.specs.declared.fault.LineFault.{LineFault}
use Rattle.event_csv.specs.Event.{event}
use Rattle.courses.specs.QuerySet.{QuerySet}
use Rattle.history_laws.specs.Keys.{AreKeyed, with_keys}
use Rattle.text_laws.specs.Wholes.{IsHeardWhole, events_of, line_texts}

-- whether the event of a line has one of our keys; a line with a fault counts as ours
abbrev pub is_ours_in : (Value → Bool) → (ℕ → ℕ) → Result Seen LineFault → Bool
is_ours_in is_ours keys (Ok seen) = is_ours (value_at seen.tuple (keys seen.stream))
is_ours_in is_ours keys (Err why) = true

-- the lines of the event text whose events have one of our keys, and those with a fault, in their order
abbrev pub lines_with_keys : (Value → Bool) → (ℕ → ℕ) → List Entry → List (List ℕ) → List (List ℕ)
lines_with_keys is_ours keys streams texts = filter (λ text. is_ours_in is_ours keys (event streams text)) texts

-- no line of the part is refused, and at each time each query has its results of our keys, in their order, and no others
pub record ReportsItsKeys (set : QuerySet) (keys : ℕ → ℕ) (is_ours : Value → Bool) (events part : List ℕ) : Type 0 where
  pub none_refused : IsHeardWhole set part
  pub results_are : (stream time : ℕ) → results set.program (events_of set part) stream time ≡ with_keys is_ours (keys stream) (results set.program (events_of set events) stream time)
  pub lines_are :
      All (λ query. (time : ℕ) → lines_at set.program (events_of set part) time query ≡ flat_map (line query.name) (with_keys is_ours (keys query.stream) (results set.program (events_of set events) query.stream time))) set.program.queries

-- where each query keeps the key and no line is refused, a part of an event text by its values reports the results of these keys
abbrev pub PartsByAKeyReportTheirKeys : Type 0
PartsByAKeyReportTheirKeys =
    (set : QuerySet) (keys : ℕ → ℕ) (is_ours : Value → Bool) (events part : List ℕ) → AreKeyed keys set.program → IsHeardWhole set events
    → line_texts part ≡ lines_with_keys is_ours keys set.streams (line_texts events) → ReportsItsKeys set keys is_ours events part
