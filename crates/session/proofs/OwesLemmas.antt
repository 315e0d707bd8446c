-- What one more line leaves of the work.
use Rattle.std.proofs.Common.{◌≡◌, ◌∙◌, sym, ap, refl, subst, ℕ, ◌<◌, ◌≤◌, Bool, true, false, cond, is_some, List, [], ◌∷◌, ◌++◌, Option, Some, None, Ok, Err, Result, length-append, append_assoc, append-nil, arith, le-leb}
use Rattle.std.specs.Option.{option_or}
use Rattle.std.proofs.lemmas.Bool.{lt-ltb}
use Rattle.std.proofs.lemmas.List.{take-append-le}
use Rattle.cay_host.specs.Faults.{Rose}
use Rattle.cay_host.specs.Output.{Wrote, WrotePart}
use Rattle.cay_host.specs.Told.{Told}
use Rattle.semantics.specs.Histories.{Event}
use Rattle.event_csv.specs.Lines.{Line}
use Rattle.epoch_engine.specs.EngineView as engine
use Rattle.catalogue.specs.Catalogued.{Catalogued}
use Rattle.courses.specs.declared.refusal.Refusal.{Refusal}
use Rattle.courses.specs.declared.refusal.Refusal.TheVariants.{IsOutOfOrder}
use Rattle.courses.specs.ControlLines.{EntryFault, OfControl, OfLine, entry_of}
use Rattle.courses.specs.Course as course
use Rattle.courses.specs.Course.{Adds, CourseEntry, Drops, Hears, Moment, after_entry, events_at, events_in}
use Rattle.courses.specs.Heard.{after_line, disorder, entries_in, heard_from, refusal_at, refusal_of, refused_from}
use Rattle.courses.specs.QuerySet.{set_in}
use Rattle.session.specs.declared.fault.SessionFault.{SessionFault}
use Rattle.session.specs.declared.fault.SessionFault.TheVariants as fault
use Rattle.session.specs.declared.work.Work.{Work}
use Rattle.session.specs.ForEachHistory.{WritesAll}
use Rattle.session.specs.WroteFront.{WroteFront}
use Rattle.session.specs.Says.{refusal_for}
use Rattle.session.specs.Standing.{StandsFor, moment_at, seen_by}
use Rattle.session.specs.Owes.{Advances, AdvancesPast, FailsBy, GoesOn, Owes, RefusesBy, Stage, StoppedBy, Stops, closes, closing, epoch_rows, is_later, left_of, open_rows, open_time, rows_left, stage_at}
use Rattle.session.proofs.WroteFrontLemmas.{Owes-trans, Owes-all, part_after, front_after, front_none, all_written}

-- an event before the time of the open epoch is out of order
pub late_open : (line at seen : ℕ) → at < seen → disorder line true (Some seen) at ≡ Some (IsOutOfOrder line at seen)
late_open line at seen less = ap (λ b. cond b (Some (IsOutOfOrder line at seen)) None) (lt-ltb at seen less)

-- so is one that isn't after the last closed time, where no epoch is open
pub late_closed : (line at seen : ℕ) → at ≤ seen → disorder line false (Some seen) at ≡ Some (IsOutOfOrder line at seen)
late_closed line at seen less = ap (λ b. cond b (Some (IsOutOfOrder line at seen)) None) (le-leb at seen less)

-- the epoch that is open at the moment of an engine is that of the engine
pub open_is : (c : Catalogued) (now : engine.EngineView) → open_time (moment_at c now) ≡ now.time
open_is c now = by_time now.time
  where
    by_time : (time : Option ℕ) → cond (is_some time) (option_or time now.closed_time) None ≡ time
    by_time None = refl
    by_time (Some time) = refl

-- a part of the rows, and a front of them, of a longer text
pub part_of_more : {rows : List ℕ} {a b : Told} (more : List ℕ) → WrotePart rows a b → WrotePart (rows ++ more) a b
part_of_more {rows} {a} {b} more part =
    let less = part.1 in
    let long = length-append rows more in
    (part.0, omega (arith, less, long), subst (λ t. Wrote t a b) (sym (take-append-le part.0 rows more (omega (arith, less)))) part.2)

-- a front of rows is a front of more
pub front_of_more : {rows : List ℕ} {a b : Told} (more : List ℕ) → WroteFront rows a b → WroteFront (rows ++ more) a b
front_of_more {rows} {a} {b} more part =
    let less = part.within in
    let long = length-append rows more in
    record { size = part.size; within = omega (arith, less, long); wrote = subst (λ t. Wrote t a b) (sym (take-append-le part.size rows more less)) part.wrote }

-- the events of one entry
pub events_one : (entry : CourseEntry) → events_in (entry ∷ []) ≡ events_at entry
events_one (Hears event) = refl
events_one (Adds added) = refl
events_one (Drops query) = refl

module _ (ended : Bool) (line : Line) (lines : List Line) (stage : Stage) where
  -- what is left by a line that says this
  abbrev left_by : Result CourseEntry EntryFault → Option Refusal → List ℕ
  left_by found refusal =
      cond (is_some refusal) []
      (cond (closes stage.moment found) (open_rows stage.moment stage.history) [] ++ rows_left (course.after stage.moment (entries_in found)) ended lines (stage.history ++ events_in (entries_in found)))

  -- a refused line owes nothing but the rows
  refused_left : (refusal : Refusal) → refusal_at stage.moment line ≡ Some refusal → stage.rows ≡ left_of ended (line ∷ lines) stage
  refused_left refusal e = sym (append-nil stage.rows) ∙ ap (λ o. stage.rows ++ left_by (entry_of stage.moment.set line.bytes) o) (sym e)

  refused_first : (refusal : Refusal) → refusal_at stage.moment line ≡ Some refusal → refused_from stage.moment (line ∷ lines) ≡ Some refusal
  refused_first refusal e = ap (λ o. option_or o (refused_from (after_line stage.moment line) lines)) e

  -- the work ends with a refusal
  pub refuses : (refusal : Refusal) (a b : Told) (stop : SessionFault) → refusal_at stage.moment line ≡ Some refusal → RefusesBy stage.rows refusal a b stop → Stops ended (line ∷ lines) stage a b stop
  refuses refusal a b (fault.Refused other) e by = (refused_first refusal e ∙ ap Some (sym by.0), subst (λ t. Wrote t a b) (refused_left refusal e) by.1)
  refuses refusal a b (fault.TooMuch limit) e by = absurd by
  refuses refusal a b fault.WriteFault e by = (by.0, subst (λ t. WrotePart t a b) (refused_left refusal e) by.1)
  refuses refusal a b fault.Memory e by = subst (λ t. WroteFront t a b) (refused_left refusal e) by

  module _ (entry : CourseEntry) (says : entry_of stage.moment.set line.bytes ≡ Ok entry) (timely : refusal_of line.number stage.moment (Ok entry) ≡ None) where
    -- the moment behind the entry
    abbrev next : Moment
    next = after_entry stage.moment entry

    -- the rows that the entry closes
    abbrev closed : List ℕ
    closed = cond (closes stage.moment (Ok entry)) (open_rows stage.moment stage.history) []

    -- the rows that it leaves
    abbrev rest_after : List ℕ
    rest_after = rows_left next ended lines (stage.history ++ events_at entry)

    -- the line isn't refused
    not_refused : refusal_at stage.moment line ≡ None
    not_refused = ap (λ found. refusal_of line.number stage.moment found) says ∙ timely

    -- an entry in time closes the open epoch, or not, and the work goes on
    entry_left : stage.rows ++ (closed ++ rest_after) ≡ left_of ended (line ∷ lines) stage
    entry_left =
        ap (λ events. stage.rows ++ (closed ++ rows_left next ended lines (stage.history ++ events))) (sym (events_one entry))
        ∙ ap (λ found. stage.rows ++ left_by found None) (sym says)
        ∙ ap (λ o. stage.rows ++ left_by (entry_of stage.moment.set line.bytes) o) (sym not_refused)

    heard_next : heard_from stage.moment (line ∷ lines) ≡ entry ∷ heard_from next lines
    heard_next =
        ap (λ o. cond (is_some o) [] (entries_in (entry_of stage.moment.set line.bytes) ++ heard_from (after_line stage.moment line) lines)) not_refused
        ∙ ap (λ found. entries_in found ++ heard_from (course.after stage.moment (entries_in found)) lines) says

    -- the work goes on behind an entry in time
    pub goes_on : (new : Stage) (rows : List ℕ) (a b : Told) → ((rest : List ℕ) → Owes (stage.rows ++ (closed ++ rest)) (rows ++ rest) a b)
        → new.rows ≡ rows → new.moment ≡ next → new.history ≡ stage.history ++ events_at entry → Advances ended (line ∷ lines) lines stage new a b
    goes_on new rows a b owes same moment history =
        let to : rows ++ rest_after ≡ left_of ended lines new = λ i. sym same i ++ rows_left (sym moment i) ended lines (sym history i) in
        record {
          owes = subst (λ t. Owes (left_of ended (line ∷ lines) stage) t a b) to (subst (λ t. Owes t (rows ++ rest_after) a b) entry_left (owes rest_after));
          refused = ap (λ o. option_or o (refused_from (after_line stage.moment line) lines)) not_refused ∙ ap (λ found. refused_from (course.after stage.moment (entries_in found)) lines) says ∙ ap (λ m. refused_from m lines) (sym moment);
          hears =
              ap (λ c. stage.history ++ events_in c) heard_next ∙ ap (λ events. stage.history ++ events) (events_behind entry (heard_from next lines))
              ∙ sym (append_assoc stage.history (events_at entry) (events_in (heard_from next lines)))
              ∙ (λ i. sym history i ++ events_in (heard_from (sym moment i) lines));
          moment = ap (course.after stage.moment) heard_next ∙ ap (λ m. course.after m (heard_from m lines)) (sym moment);
        }
      where
        events_behind : (entry : CourseEntry) (c : course.Course) → events_in (entry ∷ c) ≡ events_at entry ++ events_in c
        events_behind (Hears event) c = refl
        events_behind (Adds added) c = refl
        events_behind (Drops query) c = refl

    -- the work ends where rows can't be made or written
    pub fails : (a b : Told) (stop : SessionFault) → FailsBy (stage.rows ++ closed) a b stop → Stops ended (line ∷ lines) stage a b stop
    fails a b stop by = cases stop by
      where
        same : (stage.rows ++ closed) ++ rest_after ≡ left_of ended (line ∷ lines) stage
        same = append_assoc stage.rows closed rest_after ∙ entry_left

        cases : (stop : SessionFault) → FailsBy (stage.rows ++ closed) a b stop → Stops ended (line ∷ lines) stage a b stop
        cases (fault.Refused other) by = absurd by
        cases (fault.TooMuch limit) by = absurd by
        cases fault.WriteFault by = (by.0, subst (λ t. WrotePart t a b) same (part_of_more rest_after by.1))
        cases fault.Memory by = subst (λ t. WroteFront t a b) same (front_of_more rest_after by)

    -- the work ends with no memory, once the open epoch was closed
    pub no_memory : (rows : List ℕ) (a b : Told) → ((rest : List ℕ) → Owes (stage.rows ++ (closed ++ rest)) (rows ++ rest) a b) → Stops ended (line ∷ lines) stage a b fault.Memory
    no_memory rows a b owes = subst (λ t. WroteFront t a b) entry_left (front_after (owes rest_after) (front_none _ b))

-- a count that rose later rose
pub rose_after : (a b c : ℕ) → a ≤ b → Rose b c → Rose a c
rose_after a b c up rose = omega (arith, up, rose)

-- the work goes on, and then ends
pub advances_stops : (ended : Bool) (lines others : List Line) (old new : Stage) (a b c : Told) (stop : SessionFault)
    → a.write_faults ≤ b.write_faults → Advances ended lines others old new a b → Stops ended others new b c stop → Stops ended lines old a c stop
advances_stops ended lines others old new a b c (fault.Refused refusal) up more stops = (more.refused ∙ stops.0, Owes-all (Owes-trans more.owes (all_written stops.1)))
advances_stops ended lines others old new a b c (fault.TooMuch limit) up more stops = absurd stops
advances_stops ended lines others old new a b c fault.WriteFault up more stops = (rose_after _ _ _ up stops.0, part_after more.owes stops.1)
advances_stops ended lines others old new a b c fault.Memory up more stops = front_after more.owes stops

-- work that has advanced ends as the work on the other lines does
pub advances_ends : (ended : Bool) (lines others : List Line) (old new : Stage) (a b c : Told) (end : Result (Unit {0}) SessionFault)
    → a.write_faults ≤ b.write_faults → Advances ended lines others old new a b → StoppedBy ended others new b c end → StoppedBy ended lines old a c end
advances_ends ended lines others old new a b c (Ok done) up more ends = (more.refused ∙ ends.0, Owes-all (Owes-trans more.owes (all_written ends.1)))
advances_ends ended lines others old new a b c (Err stop) up more ends = advances_stops ended lines others old new a b c stop up more ends

advances_trans : {ended : Bool} {first second third : List Line} {x y z : Stage} {a b c : Told} → Advances ended first second x y a b → Advances ended second third y z b c → Advances ended first third x z a c
advances_trans p q = record { owes = Owes-trans p.owes q.owes; refused = p.refused ∙ q.refused; hears = p.hears ∙ q.hears; moment = p.moment ∙ q.moment }

-- the lines under another name
pub stops_same : (ended : Bool) (lines others : List Line) (stage : Stage) (a b : Told) (stop : SessionFault) → others ≡ lines → Stops ended lines stage a b stop → Stops ended others stage a b stop
stops_same ended lines others stage a b stop e stops = subst (λ l. Stops ended l stage a b stop) (sym e) stops

-- lines that are left alike end alike
pub ends_same : (ended : Bool) (lines others : List Line) (stage : Stage) (a b : Told) (end : Result (Unit {0}) SessionFault) → others ≡ lines → StoppedBy ended lines stage a b end → StoppedBy ended others stage a b end
ends_same ended lines others stage a b end e ends = subst (λ l. StoppedBy ended l stage a b end) (sym e) ends

-- the work goes on, and on
pub goes_further : {c d : Catalogued} {first second third : List Line} {x : Stage} {y z : Work} {a b e : Told}
    → GoesOn first second x c y a b → ((heard : List Event) → StandsFor c heard y.engine → GoesOn second third (stage_at c y heard) d z b e) → GoesOn first third x d z a e
goes_further p more =
    let q = more p.heard p.stands in
    record { heard = q.heard; stands = q.stands; advances = advances_trans p.advances q.advances }

-- an entry was taken, and the lines are others
pub took : {c d : Catalogued} {entry : CourseEntry} {history : List Event} {old new : Work} {a b : Told} (line : Line) (lines others : List Line)
    → lines ≡ line ∷ others → entry_of (set_in c) line.bytes ≡ Ok entry → AdvancesPast c d entry history old new a b → GoesOn lines others (stage_at c old history) d new a b
took {c} {d} {entry} {history} {old} {new} {a} {b} line lines others shows says takes = record {
  heard = history ++ events_at entry;
  stands = takes.stands;
  advances = subst (λ ls. Advances false ls others (stage_at c old history) (stage_at d new (history ++ events_at entry)) a b) (sym shows) (takes.advances false line others says);
}

-- the rows that it owes then are all
pub nothing_left : (stage : Stage) → stage.rows ≡ left_of false [] stage
nothing_left stage = sym (append-nil stage.rows)

-- an event closes the same rows at the moment of an engine as of its open epoch
pub event_closes : (c : Catalogued) (now : engine.EngineView) (history : List Event) (event : Event)
    → closing (set_in c).program history now.time event.tuple.at ≡ cond (closes (moment_at c now) (Ok (Hears event))) (open_rows (moment_at c now) history) []
event_closes c now history event = ap (λ o. cond (is_later o event.tuple.at) (epoch_rows (set_in c).program history o) []) (sym (open_is c now))

-- so does an entry that is no event
pub control_closes : (c : Catalogued) (now : engine.EngineView) (history : List Event) → epoch_rows (set_in c).program history now.time ≡ open_rows (moment_at c now) history
control_closes c now history = ap (epoch_rows (set_in c).program history) (sym (open_is c now))

-- where no line is left and the text has ended, the rows and those of the open epoch are all
pub last_ends : (c : Catalogued) (work : Work) (history : List Event) (a b : Told) (end : Result (Unit {0}) SessionFault)
    → WritesAll (work.rows ++ epoch_rows (set_in c).program history work.engine.time) a b end → StoppedBy true [] (stage_at c work history) a b end
last_ends c work history a b end writes = cases end (subst (λ rows. WritesAll (work.rows ++ rows) a b end) (control_closes c work.engine history) writes)
  where
    all : List ℕ
    all = work.rows ++ open_rows (moment_at c work.engine) history

    cases : (end : Result (Unit {0}) SessionFault) → WritesAll all a b end → StoppedBy true [] (stage_at c work history) a b end
    cases (Ok done) writes = (refl, writes)
    cases (Err (fault.Refused refusal)) writes = absurd writes
    cases (Err (fault.TooMuch limit)) writes = absurd writes
    cases (Err fault.WriteFault) writes = writes
    cases (Err fault.Memory) writes = writes

-- what is owed of rows is owed of the same rows
pub now_owes : (old new rows others : List ℕ) (a b : Told) → rows ≡ others → ((rest : List ℕ) → Owes (old ++ (rows ++ rest)) (new ++ rest) a b) → (rest : List ℕ) → Owes (old ++ (others ++ rest)) (new ++ rest) a b
now_owes old new rows others a b same owes rest = subst (λ rs. Owes (old ++ (rs ++ rest)) (new ++ rest) a b) same (owes rest)

-- and what fails at rows fails at the same rows
pub now_fails : (old rows others : List ℕ) (a b : Told) (stop : SessionFault) → rows ≡ others → FailsBy (old ++ rows) a b stop → FailsBy (old ++ others) a b stop
now_fails old rows others a b stop same by = subst (λ rs. FailsBy (old ++ rs) a b stop) same by

-- the moment of an engine that took an event
pub heard_moment : (c : Catalogued) (old now : engine.EngineView) (event : Event) → now.time ≡ Some event.tuple.at → moment_at c now ≡ after_entry (moment_at c old) (Hears event)
heard_moment c old now event e = λ i. record { set = set_in c; seen = option_or (e i) now.closed_time; is_open = is_some (e i) }

-- a line that says an event is refused for its time
pub says_refusal : (c : Catalogued) (now : engine.EngineView) (line : Line) (number : ℕ) (event : Event) (refusal : Refusal) → line.number ≡ number → entry_of (set_in c) line.bytes ≡ Ok (Hears event)
    → disorder number (is_some now.time) (seen_by now) event.tuple.at ≡ Some refusal → refusal_at (moment_at c now) line ≡ Some refusal
says_refusal c now line number event refusal same says late =
    ap (λ found. refusal_of line.number (moment_at c now) found) says ∙ ap (λ n. disorder n (is_some now.time) (seen_by now) event.tuple.at) same ∙ late

-- the refusal of a line by its fault, at whatever moment
pub refused_by : (c : Catalogued) (now : engine.EngineView) (line : Line) (refusal : Refusal) → (why : EntryFault) × (entry_of (set_in c) line.bytes ≡ Err why) × (refusal ≡ refusal_for line.number why) → refusal_at (moment_at c now) line ≡ Some refusal
refused_by c now line refusal says = ap (λ found. refusal_of line.number (moment_at c now) found) says.1 ∙ by_why says.0 ∙ ap Some (sym says.2)
  where
    by_why : (why : EntryFault) → refusal_of line.number (moment_at c now) (Err why) ≡ Some (refusal_for line.number why)
    by_why (OfLine why) = refl
    by_why (OfControl why) = refl
