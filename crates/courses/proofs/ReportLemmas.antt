-- The report of a course that goes on.
use Rattle.std.proofs.Common.{◌≡◌, ◌∙◌, sym, ap, subst, refl, ℕ, ◌<◌, ◌==◌, Bool, true, false, not, cond, length, List, [], ◌∷◌, ◌++◌, append-nil, arith}
use Rattle.std.specs.List.{All, filter, flat_map}
use Rattle.std.proofs.lemmas.Grind.{flat_map-append}
use Rattle.std.proofs.lemmas.List.Elements.{All-cons, All-filter, All-head, All-nil, All-tail, All-weaker}
use Rattle.event_types.proofs.NumberLemmas.{is_other, self_equal}
use Rattle.semantics.specs.Histories.{Event, times}
use Rattle.semantics.specs.Laws.{IsBefore}
use Rattle.semantics.specs.Programs.{Program}
use Rattle.semantics.specs.Report.{epoch, line, lines_at, report}
use Rattle.semantics.proofs.ListLemmas.{every}
use Rattle.semantics.proofs.ReportLemmas.{flat_map_same, results_stand, times-append, times_of_one}
use Rattle.courses.specs.Course.{Adds, Course, Drops, Hears, Moment, after, after_entry, events_in, set_after, start}
use Rattle.courses.specs.Laws.{heard_alone}
use Rattle.courses.specs.QuerySet.{QuerySet}
use Rattle.courses.specs.Reports.{course_epoch, course_report, program_at}
use Rattle.courses.proofs.MomentLemmas.{events_in-append}

-- the program at a time that came is that of the course so far: an induction on it
pub program_stays : (m : Moment) (course more : Course) → All (λ time. program_at m (course ++ more) time ≡ program_at m course time) (times (events_in course))
program_stays m [] more = All-nil (λ time. program_at m more time ≡ program_at m [] time)
program_stays m (Hears event ∷ course) more =
    let n = after_entry m (Hears event) in
    let at = event.tuple.at in
    let Same : ℕ → Type 0 = λ time. program_at m (Hears event ∷ course ++ more) time ≡ program_at m (Hears event ∷ course) time in
    let rest = All-weaker (λ time. program_at n (course ++ more) time ≡ program_at n course time) Same (λ time same. ap (cond (at == time) m.set.program) same) (times (events_in course)) (program_stays n course more) in
    let first : Same at = ap (λ b. cond b m.set.program (program_at n (course ++ more) at)) (self_equal at) ∙ sym (ap (λ b. cond b m.set.program (program_at n course at)) (self_equal at)) in
    All-cons Same at (filter (λ time. not (time == at)) (times (events_in course))) first (All-filter (λ time. not (time == at)) Same (times (events_in course)) rest)
program_stays m (Adds added ∷ course) more = program_stays (after_entry m (Adds added)) course more
program_stays m (Drops query ∷ course) more = program_stays (after_entry m (Drops query)) course more

-- the program at a later time is that at the end of the course: an induction on it
pub program_later : (m : Moment) (course more : Course) (time : ℕ) → All (λ event. event.tuple.at < time) (events_in course) → program_at m (course ++ more) time ≡ program_at (after m course) more time
program_later m [] more time below = refl
program_later m (Hears event ∷ course) more time below =
    let less = All-head (λ (event : Event). event.tuple.at < time) event (events_in course) below in
    let other : (event.tuple.at == time) ≡ false = is_other event.tuple.at time (λ same. omega (arith, less, same)) in
    ap (λ b. cond b m.set.program (program_at (after_entry m (Hears event)) (course ++ more) time)) other
    ∙ program_later (after_entry m (Hears event)) course more time (All-tail (λ (event : Event). event.tuple.at < time) event (events_in course) below)
program_later m (Adds added ∷ course) more time below = program_later (after_entry m (Adds added)) course more time below
program_later m (Drops query ∷ course) more time below = program_later (after_entry m (Drops query)) course more time below

-- what holds of each event's time holds of each time
times_hold : (P : ℕ → Type 0) (history : List Event) → All (λ event. P event.tuple.at) history → All P (times history)
times_hold P [] all = All-nil P
times_hold P (event ∷ later) all =
    All-cons P event.tuple.at (filter (λ time. not (time == event.tuple.at)) (times later)) (All-head (λ event. P event.tuple.at) event later all)
    (All-filter (λ time. not (time == event.tuple.at)) P (times later) (times_hold P later (All-tail (λ event. P event.tuple.at) event later all)))

-- the lines of an epoch stay
epoch_stays : (program : Program) (history later : List Event) (time : ℕ) → All (λ event. time < event.tuple.at) later → epoch program (history ++ later) time ≡ epoch program history time
epoch_stays program history later time all =
    flat_map_same (lines_at program (history ++ later) time) (lines_at program history time) program.queries
    (every (λ query. lines_at program (history ++ later) time query ≡ lines_at program history time query) (λ query. ap (flat_map (line query.name)) (results_stand program history later query.stream time all)) program.queries)

-- both at each of some times
both_hold : {X : Type 0} (P Q R : X → Type 0) → ((x : X) → P x → Q x → R x) → (xs : List X) → All P xs → All Q xs → All R xs
both_hold P Q R f xs p q k d inside = f _ (p k d inside) (q k d inside)

module _ (set : QuerySet) (course more : Course) (before : IsBefore (events_in course) (events_in more)) where
  abbrev whole : ℕ → List ℕ
  whole = course_epoch set (course ++ more)

  -- the epochs of the course so far have the same lines
  epochs_stay : All (λ time. whole time ≡ course_epoch set course time) (times (events_in course))
  epochs_stay =
      both_hold (λ time. program_at (start set) (course ++ more) time ≡ program_at (start set) course time) (λ time. All (λ late. time < late.tuple.at) (events_in more)) (λ time. whole time ≡ course_epoch set course time)
      (λ time same late. (λ i. epoch (same i) (events_in-append course more i) time) ∙ epoch_stays (program_at (start set) course time) (events_in course) (events_in more) time late)
      (times (events_in course)) (program_stays (start set) course more) (times_hold (λ time. All (λ late. time < late.tuple.at) (events_in more)) (events_in course) before)

  -- later events add the lines of their epochs
  pub course_report_grows : course_report set (course ++ more) ≡ course_report set course ++ flat_map whole (times (events_in more))
  course_report_grows =
      ap (λ events. flat_map whole (times events)) (events_in-append course more)
      ∙ ap (flat_map whole) (times-append (events_in course) (events_in more) before)
      ∙ flat_map-append whole (times (events_in course)) (times (events_in more))
      ∙ ap (λ text. text ++ flat_map whole (times (events_in more))) (flat_map_same whole (course_epoch set course) (times (events_in course)) epochs_stay)

-- entries that are no events add nothing
pub control_entries : (set : QuerySet) (course entries : Course) → events_in entries ≡ [] → course_report set (course ++ entries) ≡ course_report set course
control_entries set course entries none =
    course_report_grows set course entries (every (λ event. All (λ late. event.tuple.at < late.tuple.at) (events_in entries)) (λ event. none_late event (events_in entries) none) (events_in course))
    ∙ ap (λ events. course_report set course ++ flat_map (course_epoch set (course ++ entries)) (times events)) none ∙ append-nil (course_report set course)
  where
    none_late : (event : Event) (events : List Event) → events ≡ [] → All (λ late. event.tuple.at < late.tuple.at) events
    none_late event [] e = All-nil (λ (late : Event). event.tuple.at < late.tuple.at)
    none_late event (late ∷ events) e = cc

-- the history of events alone is they themselves
pub events_alone : (history : List Event) → events_in (heard_alone history) ≡ history
events_alone [] = refl
events_alone (event ∷ history) = ap (λ events. event ∷ events) (events_alone history)

-- and the queries stay
program_alone : (m : Moment) (history : List Event) (time : ℕ) → program_at m (heard_alone history) time ≡ m.set.program
program_alone m [] time = refl
program_alone m (event ∷ history) time = ap (cond (event.tuple.at == time) m.set.program) (program_alone (after_entry m (Hears event)) history time) ∙ either (event.tuple.at == time) m.set.program
  where
    either : (b : Bool) (program : Program) → cond b program program ≡ program
    either true program = refl
    either false program = refl

-- a course of events alone is reported as its history
pub alone : (set : QuerySet) (history : List Event) → course_report set (heard_alone history) ≡ report set.program history
alone set history =
    ap (λ events. flat_map (course_epoch set (heard_alone history)) (times events)) (events_alone history)
    ∙ flat_map_same (course_epoch set (heard_alone history)) (epoch set.program history) (times history)
    (every (λ time. course_epoch set (heard_alone history) time ≡ epoch set.program history time) (λ time i. epoch (program_alone (start set) history time i) (events_alone history i) time) (times history))

-- the program at the time of events that come next is that before them
program_next : (m : Moment) (events : List Event) (time : ℕ) → All (λ event. event.tuple.at ≡ time) events → 0 < length events → program_at m (heard_alone events) time ≡ m.set.program
program_next m [] time all some = absurd (omega (arith, some))
program_next m (event ∷ events) time all some = program_alone m (event ∷ events) time

-- events of one later time add the lines of its epoch
pub by_epochs : (set : QuerySet) (course : Course) (events : List Event) (time : ℕ)
    → All (λ event. event.tuple.at < time) (events_in course) → All (λ event. event.tuple.at ≡ time) events → 0 < length events
    → course_report set (course ++ heard_alone events) ≡ course_report set course ++ epoch (set_after set course).program (events_in course ++ events) time
by_epochs set course [] time below all some = absurd (omega (arith, some))
by_epochs set course (event ∷ events) time below all some =
    let next = heard_alone (event ∷ events) in
    let late = λ (early : Event). All (λ (late : Event). early.tuple.at < late.tuple.at) (events_in next) in
    let same = events_alone (event ∷ events) in
    let before : IsBefore (events_in course) (events_in next) = All-weaker (λ (early : Event). early.tuple.at < time) late (λ early less. subst (λ es. All (λ (late : Event). early.tuple.at < late.tuple.at) es) (sym same) (All-weaker (λ (late : Event). late.tuple.at ≡ time) (λ late. early.tuple.at < late.tuple.at) (λ late is. omega (arith, less, is)) (event ∷ events) all)) (events_in course) below in
    course_report_grows set course next before
    ∙ ap (λ es. course_report set course ++ flat_map (course_epoch set (course ++ next)) (times es)) same
    ∙ ap (λ ts. course_report set course ++ flat_map (course_epoch set (course ++ next)) ts) (times_of_one time event events all)
    ∙ ap (λ text. course_report set course ++ text) (append-nil (course_epoch set (course ++ next) time))
    ∙ (λ i. course_report set course ++ epoch ((program_later (start set) course next time below ∙ program_alone (after (start set) course) (event ∷ events) time) i) ((events_in-append course next ∙ ap (λ es. events_in course ++ es) same) i) time)
