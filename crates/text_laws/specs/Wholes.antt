-- Whole event texts without control lines, none of whose lines is refused.
use Rattle.std.specs.Prelude.{◌≡◌, ℕ, true, List, None, map}
use Rattle.semantics.specs.Histories.{Event}
use Rattle.event_csv.specs.Lines.{Line, lines}
use Rattle.courses.specs.Course.{events_in}
use Rattle.courses.specs.Laws.{HasNoControlLine}
use Rattle.courses.specs.QuerySet.{QuerySet}
use Rattle.courses.specs.Reports.{closed_in, refused_in, report_of_closed}

-- the bytes of the lines of an event text, without its header and empty lines
abbrev pub line_texts : List ℕ → List (List ℕ)
line_texts events = map (λ (line : Line). line.bytes) (lines events true)

-- no line of the event text is a control line, and none is refused
pub record IsHeardWhole (set : QuerySet) (events : List ℕ) : Type 0 where
  pub plain : HasNoControlLine events true
  pub none_refused : refused_in set events true ≡ None

-- the events of the epochs that an event text closes by its end: all, where no line is refused
abbrev pub events_of : QuerySet → List ℕ → List Event
events_of set events = events_in (closed_in set events true)

-- the report of an event text
abbrev pub report_of : QuerySet → List ℕ → List ℕ
report_of set events = report_of_closed set events true
