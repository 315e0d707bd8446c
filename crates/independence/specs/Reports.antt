-- Event texts without control lines, where queries are added.
use Rattle.std.specs.Prelude.{◌≡◌, ℕ, Bool, List}
use Rattle.std.specs.List.{All}
use Rattle.semantics.specs.Histories.{times}
use Rattle.catalogue.specs.Judgement.{Accepts, Judged, program_of}
use Rattle.courses.specs.Course.{events_in}
use Rattle.courses.specs.Laws.{HasNoControlLine}
use Rattle.courses.specs.QuerySet.{set_of}
use Rattle.courses.specs.Reports.{closed_in, heard_in, refused_in}
use Rattle.independence.specs.Enlarging.{AddQueries}
use Rattle.independence.specs.Hearing.{AreTheSameEvents}
use Rattle.independence.specs.Independence.{HasTwin}

-- over an event text both query texts refuse the same line, hear the same events and close the same epochs, in each of which each query of the first has its lines in the second
pub record ReportAlike (judged other : Judged) (events : List ℕ) (ended : Bool) : Type 0 where
  pub refused_is : refused_in (set_of judged) events ended ≡ refused_in (set_of other) events ended
  pub heard_are : AreTheSameEvents judged.streams other.streams (events_in (heard_in (set_of judged) events ended)) (events_in (heard_in (set_of other) events ended))
  pub closed_are : AreTheSameEvents judged.streams other.streams (events_in (closed_in (set_of judged) events ended)) (events_in (closed_in (set_of other) events ended))
  pub epochs_are : times (events_in (closed_in (set_of judged) events ended)) ≡ times (events_in (closed_in (set_of other) events ended))
  pub lines_are : All (HasTwin (program_of judged) (program_of other) (events_in (closed_in (set_of judged) events ended)) (events_in (closed_in (set_of other) events ended))) (program_of judged).queries

-- a set of queries enlarged by others gives each old query the same lines, where no line of the event text is a control line
abbrev pub AddedQueriesChangeNoReport : Type 0
AddedQueriesChangeNoReport =
    (text other_text : List ℕ) (judged other : Judged) (events : List ℕ) (ended : Bool) → Accepts text judged → Accepts other_text other → AddQueries judged.statements other.statements
    → HasNoControlLine events ended → ReportAlike judged other events ended
