-- A run that begins in the middle of an event text.
use Rattle.std.specs.Prelude.{◌≡◌, ℕ, ◌+◌, ◌<◌, List, ◌++◌, Result, Ok, Err}
use Rattle.std.specs.List.{All}
use Rattle.semantics.specs.Results.{results}
use Rattle.stream_schema.specs.Streams.{Entry}
use Rattle.event_csv.specs.declared.event.Seen.{Seen}
use Rattle.event_csv.specs.declared.fault.LineFault.{LineFault}
use Rattle.event_csv.specs.Event.{event}
use Rattle.courses.specs.QuerySet.{QuerySet}
use Rattle.history_laws.specs.LateStarts.{HearTheSameFrom, ResultsSpanAtMost, late, report_from}
use Rattle.text_laws.specs.Wholes.{IsHeardWhole, events_of, line_texts}

-- results that start at a time or later depend on no event that starts before it, where no line of either text is refused
abbrev pub LateResultsDependOnLateLines : Type 0
LateResultsDependOnLateLines =
    (set : QuerySet) (events others : List ℕ) (start : ℕ) → IsHeardWhole set events → IsHeardWhole set others
    → HearTheSameFrom start set.program.declared (events_of set events) (events_of set others)
    → (stream time : ℕ) → late start (results set.program (events_of set events) stream time) ≡ late start (results set.program (events_of set others) stream time)

-- the line is an event that is detected before the time
abbrev pub IsBefore : ℕ → Result Seen LineFault → Type 0
IsBefore start (Ok seen) = seen.tuple.at < start
IsBefore start (Err why) = ⊥

-- the other event text has the lines behind those of events that are detected before the time
pub record BeginsAt (streams : List Entry) (start : ℕ) (events others : List ℕ) : Type 0 where
  pub past : List (List ℕ)
  pub lines_are : line_texts events ≡ past ++ line_texts others
  pub past_is_early : All (λ line. IsBefore start (event streams line)) past

-- where no line of the first text is refused, and all its results from the time on, once the span has passed, span at most so much, no line of the second is refused, and from then on both report the same, byte by byte
abbrev pub RestartReportsTheSame : Type 0
RestartReportsTheSame =
    (set : QuerySet) (events others : List ℕ) (start span : ℕ) → IsHeardWhole set events → BeginsAt set.streams start events others
    → ResultsSpanAtMost span set.program (events_of set events) (start + span)
    → IsHeardWhole set others × (report_from (start + span) set.program (events_of set events) ≡ report_from (start + span) set.program (events_of set others))
