-- The tests of the closed epochs of a course, epoch after epoch.
use Rattle.std.proofs.Common.{◌≡◌, ◌∙◌, sym, ap, refl, subst, ℕ, ◌+◌, ◌<◌, ◌==◌, Bool, true, false, cond, not, nat_le, nat_lt, is_some, is_none, ◌&&◌, length, sum_by, List, [], ◌∷◌, ◌++◌, Option, Some, None, arith, append-nil}
use Rattle.std.specs.List.{All, filter}
use Rattle.std.proofs.lemmas.List.Elements.{filter-append, All-nil, All-cons, All-head, All-tail, All-weaker, All-filter}
use Rattle.std.proofs.lemmas.List.Sums.{sum_by-append}
use Rattle.std.proofs.lemmas.Bool.{le-ltb}
use Rattle.std.proofs.lemmas.Bool.Decides.{nat_tests}
use Rattle.semantics.specs.Histories.{Event, times, upto}
use Rattle.semantics.specs.Laws.{IsBefore}
use Rattle.semantics.specs.Programs.{Program}
use Rattle.semantics.proofs.ListLemmas.{every}
use Rattle.semantics.proofs.ReportLemmas.{filter_none, times-append, times_of_one}
use Rattle.splitter.specs.Chains.{lines_of, work_order}
use Rattle.birth_laws.specs.BornChains.{born_lines}
use Rattle.epoch_laws.specs.BornLines.{lines_in}
use Rattle.epoch_laws.specs.Histories.{events_before, streams_over}
use Rattle.prefix_merge.specs.Listed.{states_of}
use Rattle.epoch_engine.specs.Work.{end_tests, state_tests, waiting_over}
use Rattle.event_csv.specs.Lines.{Line}
use Rattle.courses.specs.ControlLines.{entry_of}
use Rattle.courses.specs.Course.{Course, Hears, Moment, after, after_entry, events_in, set_after, start}
use Rattle.courses.specs.Heard.{after_line, closed_after, entries_in, heard_from, refusal_at, refused_from, without_open}
use Rattle.courses.specs.Laws.{heard_alone}
use Rattle.courses.specs.QuerySet.{QuerySet}
use Rattle.courses.specs.Reports.{program_at}
use Rattle.courses.proofs.MomentLemmas.{after-append, events_in-append}
use Rattle.courses.proofs.ReportLemmas.{program_later, program_stays}
use Rattle.session.specs.Owes.{closes, open_time}
use Rattle.session.specs.RunWork.{course_work, epoch_tests, tests_at}
use Rattle.session.specs.TestsLeft.{tests_left, tests_of}
use Rattle.session.proofs.ClosingLemmas.{brought, brought_after, opened}
use Rattle.session.proofs.PartsLemmas.{IsEarlier, IsOf, Parts, alone_are}

-- later events aren't before a time
before_later : (time : ℕ) (history later : List Event) → All (λ event. time < event.tuple.at) later → events_before time (history ++ later) ≡ events_before time history
before_later time history later all =
    let none = All-weaker (λ (event : Event). time < event.tuple.at) (λ event. nat_lt event.tuple.at time ≡ false) (λ event lt. le-ltb _ _ (omega (arith, lt))) later all in
    filter-append (λ event. nat_lt event.tuple.at time) history later
    ∙ ap (λ events. events_before time history ++ events) (filter_none (λ event. nat_lt event.tuple.at time) later none)
    ∙ append-nil (events_before time history)

later_is_past : (time other : ℕ) → time < other → nat_le other time ≡ false
later_is_past time other lt = grind (arith, nat_tests)

-- nor by it
by_later : (time : ℕ) (history later : List Event) → All (λ event. time < event.tuple.at) later → upto time (history ++ later) ≡ upto time history
by_later time history later all =
    let none = All-weaker (λ (event : Event). time < event.tuple.at) (λ event. nat_le event.tuple.at time ≡ false) (λ event lt. later_is_past time event.tuple.at lt) later all in
    filter-append (λ event. nat_le event.tuple.at time) history later
    ∙ ap (λ events. upto time history ++ events) (filter_none (λ event. nat_le event.tuple.at time) later none)
    ∙ append-nil (upto time history)

-- what an epoch asks for is unchanged by later events
tests_stand : (program : Program) (history later : List Event) (time : ℕ) → All (λ event. time < event.tuple.at) later → epoch_tests program (history ++ later) time ≡ epoch_tests program history time
tests_stand program history later time all =
    let lines = born_lines program in
    let order = work_order program in
    let by = by_later time history later all in
    let early = before_later time history later all in
    λ i. sum_by (state_tests time (streams_over lines order (by i)) (waiting_over lines order (early i))) (states_of (lines_of program)) + sum_by (end_tests time (streams_over lines order (by i))) (lines_in lines)

-- both at each item
pub both_hold : {X : Type 0} (P Q R : X → Type 0) → ((x : X) → P x → Q x → R x) → (xs : List X) → All P xs → All Q xs → All R xs
both_hold P Q R f xs p q k d inside = f _ (p k d inside) (q k d inside)

-- what holds of each event's time holds of each time
times_hold : (P : ℕ → Type 0) (history : List Event) → All (λ event. P event.tuple.at) history → All P (times history)
times_hold P [] all = All-nil P
times_hold P (event ∷ later) all =
    All-cons P event.tuple.at (filter (λ time. not (time == event.tuple.at)) (times later)) (All-head (λ event. P event.tuple.at) event later all)
    (All-filter (λ time. not (time == event.tuple.at)) P (times later) (times_hold P later (All-tail (λ event. P event.tuple.at) event later all)))

-- events alone leave the queries as they are
program_alone : (m : Moment) (history : List Event) (time : ℕ) → program_at m (heard_alone history) time ≡ m.set.program
program_alone m [] time = refl
program_alone m (event ∷ history) time = ap (cond (event.tuple.at == time) m.set.program) (program_alone (after_entry m (Hears event)) history time) ∙ either (event.tuple.at == time) m.set.program
  where
    either : (b : Bool) (program : Program) → cond b program program ≡ program
    either true program = refl
    either false program = refl

-- sums of what is the same of each item are the same
sum_same : (f g : ℕ → ℕ) (xs : List ℕ) → All (λ x. f x ≡ g x) xs → sum_by f xs ≡ sum_by g xs
sum_same f g [] all = refl
sum_same f g (x ∷ xs) all =
    let one = All-head (λ x. f x ≡ g x) x xs all in
    let more = sum_same f g xs (All-tail (λ x. f x ≡ g x) x xs all) in
    let left = sum_by-append f (x ∷ []) xs in
    let right = sum_by-append g (x ∷ []) xs in
    omega (arith, one, more, left, right)

plus_none : (n : ℕ) → n + 0 ≡ n
plus_none n = omega arith

plus_plus : (l m n : ℕ) → (l + m) + n ≡ l + (m + n)
plus_plus l m n = omega arith

module _ (set : QuerySet) (course more : Course) (before : IsBefore (events_in course) (events_in more)) where
  abbrev whole : ℕ → ℕ
  whole = tests_at set (course ++ more)

  -- the epochs of the course so far ask for the same
  epochs_stay : All (λ time. whole time ≡ tests_at set course time) (times (events_in course))
  epochs_stay =
      both_hold (λ time. program_at (start set) (course ++ more) time ≡ program_at (start set) course time) (λ time. All (λ late. time < late.tuple.at) (events_in more)) (λ time. whole time ≡ tests_at set course time)
      (λ time same late. (λ i. epoch_tests (same i) (events_in-append course more i) time) ∙ tests_stand (program_at (start set) course time) (events_in course) (events_in more) time late)
      (times (events_in course)) (program_stays (start set) course more) (times_hold (λ time. All (λ late. time < late.tuple.at) (events_in more)) (events_in course) before)

  -- later events add what their epochs ask for
  work_grows : course_work set (course ++ more) ≡ course_work set course + sum_by whole (times (events_in more))
  work_grows =
      ap (λ events. sum_by whole (times events)) (events_in-append course more)
      ∙ ap (sum_by whole) (times-append (events_in course) (events_in more) before)
      ∙ sum_by-append whole (times (events_in course)) (times (events_in more))
      ∙ ap (λ n. n + sum_by whole (times (events_in more))) (sum_same whole (tests_at set course) (times (events_in course)) epochs_stay)

-- entries that are no events add nothing
control_adds_none : (set : QuerySet) (course entries : Course) → events_in entries ≡ [] → course_work set (course ++ entries) ≡ course_work set course
control_adds_none set course entries none =
    work_grows set course entries (every (λ event. All (λ late. event.tuple.at < late.tuple.at) (events_in entries)) (λ event. none_late event (events_in entries) none) (events_in course))
    ∙ ap (λ events. course_work set course + sum_by (tests_at set (course ++ entries)) (times events)) none ∙ plus_none (course_work set course)
  where
    none_late : (event : Event) (events : List Event) → events ≡ [] → All (λ late. event.tuple.at < late.tuple.at) events
    none_late event [] e = All-nil (λ (late : Event). event.tuple.at < late.tuple.at)
    none_late event (late ∷ events) e = cc

-- events of one later time add what their epoch asks for
law : (set : QuerySet) (before : Course) (now : List Event) (time : ℕ) → All (IsEarlier time) (events_in before) → All (IsOf time) now → 0 < length now
    → course_work set (before ++ heard_alone now) ≡ course_work set before + epoch_tests (set_after set before).program (events_in before ++ now) time
law set before [] time early same some = absurd (omega (arith, some))
law set before (event ∷ events) time early same some =
    let next = heard_alone (event ∷ events) in
    let late = λ (first : Event). All (λ (last : Event). first.tuple.at < last.tuple.at) (events_in next) in
    let are = alone_are (event ∷ events) in
    let is_before : IsBefore (events_in before) (events_in next) =
    All-weaker (IsEarlier time) late
    (λ first less. subst (λ es. All (λ (last : Event). first.tuple.at < last.tuple.at) es) (sym are)
    (All-weaker (IsOf time) (λ last. first.tuple.at < last.tuple.at) (λ last is. omega (arith, less, is)) (event ∷ events) same)) (events_in before) early in
    work_grows set before next is_before
    ∙ ap (λ es. course_work set before + sum_by (tests_at set (before ++ next)) (times es)) are
    ∙ ap (λ ts. course_work set before + sum_by (tests_at set (before ++ next)) ts) (times_of_one time event events same)
    ∙ ap (λ n. course_work set before + n) (one (tests_at set (before ++ next)) time)
    ∙ (λ i. course_work set before + epoch_tests ((program_later (start set) before next time early ∙ program_alone (after (start set) before) (event ∷ events) time) i) ((events_in-append before next ∙ ap (λ es. events_in before ++ es) are) i) time)
  where
    one : (f : ℕ → ℕ) (x : ℕ) → sum_by f (x ∷ []) ≡ f x
    one f x = omega arith

module _ (set : QuerySet) (ended : Bool) where
  abbrev tests_brought : Moment → List Line → List Event → ℕ
  tests_brought = brought 0 (λ m n. m + n) epoch_tests ended

  open_tests_are : (program : Program) (history : List Event) (time : Option ℕ) → tests_of program history time ≡ opened 0 (λ m n. m + n) epoch_tests ended program history time
  open_tests_are program history None = refl
  open_tests_are program history (Some time) = refl

  -- the tests that are to come, epoch by epoch, by induction on the lines
  tests_are_brought : (m : Moment) (lines : List Line) (history : List Event) → tests_left m ended lines history ≡ tests_brought m lines history
  tests_are_brought m [] history = ap (λ many. cond ended many 0) (open_tests_are m.set.program history (open_time m))
  tests_are_brought m (line ∷ lines) history =
      λ i. cond (is_some (refusal_at m line)) 0
      (cond (closes m (entry_of m.set line.bytes)) (open_tests_are m.set.program history (open_time m) i) 0 + tests_are_brought (after_line m line) lines (history ++ events_in (entries_in (entry_of m.set line.bytes))) i)

  -- what the closed epochs of a course ask for, and the tests that come after it, are what the epochs ask for that are closed then
  pub tests_left_after : (lines : List Line) (past : Course) → Parts set past (after (start set) past)
      → course_work set (without_open (after (start set) past) past) + tests_left (after (start set) past) ended lines (events_in past) ≡ course_work set (closed_after set past lines ended)
  tests_left_after lines past parts =
      let m = after (start set) past in
      ap (λ many. course_work set (without_open m past) + many) (tests_are_brought m lines (events_in past))
      ∙ brought_after 0 (λ m n. m + n) plus_none plus_plus course_work epoch_tests law control_adds_none ended set lines past m refl parts
      ∙ ap (λ n. course_work set (cond (ended && is_none (refused_from m lines)) (past ++ heard_from m lines) (without_open n (past ++ heard_from m lines)))) (sym (after-append (start set) past (heard_from m lines)))
