-- The work on the lines that is still to be done. No public clause cites this module.
use Rattle.std.specs.Prelude.{◌≡◌, ⊤, ℕ, Bool, false, true, cond, nat_lt, is_some, List, [], ◌∷◌, ◌++◌, Option, Some, None, Result, Ok, Err}
use Rattle.semantics.specs.Histories.{Event}
use Rattle.semantics.specs.Programs.{Program}
use Rattle.semantics.specs.Report.{epoch}
use Rattle.cay_host.specs.Faults.{Rose}
use Rattle.cay_host.specs.Output.{Wrote, WrotePart}
use Rattle.cay_host.specs.Told.{Told}
use Rattle.event_csv.specs.Lines.{Line}
use Rattle.catalogue.specs.Catalogued.{Catalogued}
use Rattle.courses.specs.declared.refusal.Refusal.{Refusal}
use Rattle.courses.specs.ControlLines.{EntryFault, entry_of}
use Rattle.courses.specs.Course as course
use Rattle.courses.specs.Course.{CourseEntry, Hears, Adds, Drops, Moment, events_at, events_in}
use Rattle.courses.specs.Heard.{after_line, entries_in, heard_from, refusal_at, refused_from}
use Rattle.session.specs.declared.fault.SessionFault.{SessionFault}
use Rattle.session.specs.declared.fault.SessionFault.TheVariants.{Refused, TooMuch, WriteFault, Memory}
use Rattle.session.specs.declared.work.Work.{Work}
use Rattle.session.specs.WroteFront.{WroteFront}
use Rattle.session.specs.Standing.{StandsFor, moment_at}

-- a front of the text was appended, and the rest of it is still owed
pub record Owes (text rest : List ℕ) (old new : Told) : Type 0 where
  pub front : List ℕ
  pub wrote : Wrote front old new
  pub all : front ++ rest ≡ text

-- the epoch that is open at a moment
abbrev pub open_time : Moment → Option ℕ
open_time m = cond m.is_open m.seen None

-- a time is later than the one that was seen; where none was seen, no epoch is open
abbrev pub is_later : Option ℕ → ℕ → Bool
is_later None at = false
is_later (Some seen) at = nat_lt seen at

-- a line closes the open epoch: an event of a later time, or an entry that is no event
abbrev pub closes : Moment → Result CourseEntry EntryFault → Bool
closes m (Ok (Hears event)) = is_later (open_time m) event.tuple.at
closes m (Ok (Adds added)) = true
closes m (Ok (Drops query)) = true
closes m (Err why) = false

-- the rows of an epoch, where one is open and these events were heard
abbrev pub epoch_rows : Program → List Event → Option ℕ → List ℕ
epoch_rows program history None = []
epoch_rows program history (Some time) = epoch program history time

-- the rows of the epoch that is open at a moment
abbrev pub open_rows : Moment → List Event → List ℕ
open_rows m history = epoch_rows m.set.program history (open_time m)

-- the rows that are still to come of the lines from a moment on, where these events were heard
abbrev pub rows_left : Moment → Bool → List Line → List Event → List ℕ
rows_left m ended [] history = cond ended (open_rows m history) []
rows_left m ended (line ∷ lines) history =
    cond (is_some (refusal_at m line)) []
    (cond (closes m (entry_of m.set line.bytes)) (open_rows m history) [] ++ rows_left (after_line m line) ended lines (history ++ events_in (entries_in (entry_of m.set line.bytes))))

-- how far the work has come: the moment, the events that were heard, and the rows that aren't written yet
pub record Stage : Type 0 where
  pub moment : Moment
  pub history : List Event
  pub rows : List ℕ

-- that of the work, where these events were heard
abbrev pub stage_at : Catalogued → Work → List Event → Stage
stage_at c work history = record { moment = moment_at c work.engine; history = history; rows = work.rows }

-- what the work still owes of the report
abbrev pub left_of : Bool → List Line → Stage → List ℕ
left_of ended lines stage = stage.rows ++ rows_left stage.moment ended lines stage.history

-- some lines were worked on: what they owe is written or owed by the others, the first refused line is the same, and so are all that is heard and the moment then
pub record Advances (ended : Bool) (lines others : List Line) (old new : Stage) (before after : Told) : Type 0 where
  pub owes : Owes (left_of ended lines old) (left_of ended others new) before after
  pub refused : refused_from old.moment lines ≡ refused_from new.moment others
  pub hears : old.history ++ events_in (heard_from old.moment lines) ≡ new.history ++ events_in (heard_from new.moment others)
  pub moment : course.after old.moment (heard_from old.moment lines) ≡ course.after new.moment (heard_from new.moment others)

-- why the work on the lines ended
abbrev pub Stops : Bool → List Line → Stage → Told → Told → SessionFault → Type 0
Stops ended lines stage before after (Refused refusal) = (refused_from stage.moment lines ≡ Some refusal) × Wrote (left_of ended lines stage) before after
Stops ended lines stage before after (TooMuch limit) = ⊥
Stops ended lines stage before after WriteFault = Rose before.write_faults after.write_faults × WrotePart (left_of ended lines stage) before after
Stops ended lines stage before after Memory = WroteFront (left_of ended lines stage) before after

-- how the work on the lines ended
abbrev pub StoppedBy : Bool → List Line → Stage → Told → Told → Result (Unit {0}) SessionFault → Type 0
StoppedBy ended lines stage before after (Ok done) = (refused_from stage.moment lines ≡ None) × Wrote (left_of ended lines stage) before after
StoppedBy ended lines stage before after (Err fault) = Stops ended lines stage before after fault

-- the rows of the open epoch, where an event of this time closes it
abbrev pub closing : Program → List Event → Option ℕ → ℕ → List ℕ
closing program history seen at = cond (is_later seen at) (epoch_rows program history seen) []

-- why rows weren't all written: the host failed, or there was no memory
abbrev pub FailsBy : List ℕ → Told → Told → SessionFault → Type 0
FailsBy rows before after WriteFault = Rose before.write_faults after.write_faults × WrotePart rows before after
FailsBy rows before after Memory = WroteFront rows before after
FailsBy rows before after other = ⊥

-- how rows are written before a refusal
abbrev pub RefusesBy : List ℕ → Refusal → Told → Told → SessionFault → Type 0
RefusesBy rows refusal before after (Refused other) = (other ≡ refusal) × Wrote rows before after
RefusesBy rows refusal before after other = FailsBy rows before after other

-- the count of write faults is the same, unless that fault is a failed write
abbrev pub Blames : SessionFault → Told → Told → Type 0
Blames WriteFault before after = ⊤
Blames other before after = after.write_faults ≡ before.write_faults

-- a line's entry was heard too, whatever lines follow
pub record AdvancesPast (c d : Catalogued) (entry : CourseEntry) (history : List Event) (old new : Work) (before after : Told) : Type 0 where
  pub stands : StandsFor d (history ++ events_at entry) new.engine
  pub advances :
      (ended : Bool) (line : Line) (lines : List Line) → entry_of (moment_at c old.engine).set line.bytes ≡ Ok entry
      → Advances ended (line ∷ lines) lines (stage_at c old history) (stage_at d new (history ++ events_at entry)) before after

-- the work has gone on to other lines of a text that hasn't ended, where more was heard
pub record GoesOn (lines others : List Line) (old : Stage) (d : Catalogued) (new : Work) (before after : Told) : Type 0 where
  pub heard : List Event
  pub stands : StandsFor d heard new.engine
  pub advances : Advances false lines others old (stage_at d new heard) before after
