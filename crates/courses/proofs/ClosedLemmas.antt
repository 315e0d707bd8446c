-- What is closed of a course that goes on, and of an event text that does.
use Rattle.std.proofs.Common.{◌≡◌, ◌∙◌, sym, ap, refl, subst, ℕ, ◌<◌, ◌≤◌, Bool, true, false, ◌&&◌, cond, is_none, List, [], ◌++◌, Option, Some, None, append-nil, arith}
use Rattle.std.specs.List.{All, filter, flat_map}
use Rattle.std.proofs.lemmas.List.Elements.{All-nil, All-weaker, filter-append}
use Rattle.semantics.specs.Histories.{Event, times}
use Rattle.semantics.specs.Laws.{IsBefore}
use Rattle.semantics.proofs.ListLemmas.{every}
use Rattle.event_csv.specs.Fed.{fed_more, unfed}
use Rattle.event_csv.specs.Lines.{Line, lines}
use Rattle.event_csv.proofs.GoOnFacts.{go_on-left}
use Rattle.courses.specs.declared.refusal.Refusal.{Refusal}
use Rattle.courses.specs.Course.{Course, Moment, after, events_in, start}
use Rattle.courses.specs.Heard.{closed_after, heard_from, is_before_last, refused_from, without_open}
use Rattle.courses.specs.QuerySet.{QuerySet}
use Rattle.courses.specs.Reports.{course_epoch, course_report, refused_in, report_of_closed}
use Rattle.courses.proofs.HeardLemmas.{go_on_after, heard_in_time, stays_heard, stays_refused}
use Rattle.courses.proofs.ReportLemmas.{course_report_grows}
use Rattle.courses.proofs.PartedLemmas.{GoesOnClosed, all_kept, earlier_kept, events_kept, goes_on_closed}

-- a course goes on from a front by later events
pub record GoesOnLater (course front : Course) : Type 0 where
  pub rest : Course
  pub is : course ≡ front ++ rest
  pub before : IsBefore (events_in front) (events_in rest)

-- events before a time are before those that aren't
before_late : (time : ℕ) (events later : List Event) → All (λ event. event.tuple.at < time) events → All (λ event. time ≤ event.tuple.at) later → IsBefore events later
before_late time events later early late =
    All-weaker (λ (event : Event). event.tuple.at < time) (λ event. All (λ late. event.tuple.at < late.tuple.at) later)
    (λ event less. All-weaker (λ (other : Event). time ≤ other.tuple.at) (λ other. event.tuple.at < other.tuple.at) (λ other up. omega (arith, less, up)) later late) events early

module _ (m : Moment) (course more front : Course) (on : GoesOnClosed m course more front) where
  abbrev all : Course
  all = course ++ more

  abbrev then : Moment
  then = after m all

  all_later : GoesOnLater all front
  all_later = record { rest = on.parts.rest; is = on.parts.is; before = before_late on.time (events_in front) (events_in on.parts.rest) on.parts.early on.parts.late }

  closed_later : (is_open : Bool) (seen : Option ℕ) → then.is_open ≡ is_open → then.seen ≡ seen → GoesOnLater (cond is_open (filter (is_before_last seen) all) all) front
  closed_later true (Some last) open_then e =
      let low = on.open_late open_then last e in
      let test = is_before_last (Some last) in
      let early = All-weaker (λ (event : Event). event.tuple.at < on.time) (λ event. event.tuple.at < last) (λ event less. omega (arith, less, low)) (events_in front) on.parts.early in
      record {
        rest = filter test on.parts.rest;
        is = ap (filter test) on.parts.is ∙ filter-append test front on.parts.rest ∙ ap (λ k. k ++ filter test on.parts.rest) (earlier_kept last front early);
        before = before_late on.time (events_in front) (events_in (filter test on.parts.rest)) on.parts.early (events_kept (λ event. on.time ≤ event.tuple.at) (Some last) on.parts.rest on.parts.late);
      }
  closed_later true None open_then e = subst (λ k. GoesOnLater k front) (sym (all_kept all)) all_later
  closed_later false seen closed e = all_later

  -- what is closed then goes on from what was closed by later events
  pub goes_on_later : (ended : Bool) → GoesOnLater (cond ended all (without_open then all)) front
  goes_on_later true = all_later
  goes_on_later false = closed_later then.is_open then.seen refl refl

-- the lines of a text are those of its front, and more
pub lines_on : (text more : List ℕ) (ended : Bool) → (rest : List Line) × (lines (text ++ more) ended ≡ lines text false ++ rest)
lines_on text more ended = let on = go_on-left (fed_more unfed text) more ended in (on.more, on.is)

-- the first refused line of a text is that of each text that goes on from it
pub refused_stays : (set : QuerySet) (text more : List ℕ) (ended : Bool) (refusal : Refusal) → refused_in set text false ≡ Some refusal → refused_in set (text ++ more) ended ≡ Some refusal
refused_stays set text more ended refusal e =
    let on = lines_on text more ended in ap (λ ls. refused_from (start set) ls) on.1 ∙ stays_refused (start set) (lines text false) on.0 refusal e

module _ (set : QuerySet) (first more : List Line) (ended : Bool) where
  and-false : (b : Bool) → (b && false) ≡ false
  and-false true = refl
  and-false false = refl

  -- what a refused line closes doesn't hang on the end of the text
  closed_refused : (ls : List Line) (at_end : Bool) (refusal : Refusal) → refused_from (start set) ls ≡ Some refusal → closed_after set [] ls at_end ≡ without_open (after (start set) (heard_from (start set) ls)) (heard_from (start set) ls)
  closed_refused ls at_end refusal e =
      let heard = heard_from (start set) ls in
      let closed = without_open (after (start set) heard) heard in
      ap (λ o. cond (at_end && is_none o) heard closed) e ∙ ap (λ b. cond b heard closed) (and-false at_end)

  -- the closed epochs of more lines are those of the first, and later ones
  pub closed_grows : GoesOnLater (closed_after set [] (first ++ more) ended) (closed_after set [] first false)
  closed_grows = by_refusal (refused_from (start set) first) refl
    where
      m : Moment
      m = start set

      by_refusal : (o : Option Refusal) → refused_from m first ≡ o → GoesOnLater (closed_after set [] (first ++ more) ended) (closed_after set [] first false)
      by_refusal (Some refusal) e =
          let same : closed_after set [] (first ++ more) ended ≡ closed_after set [] first false =
          closed_refused (first ++ more) ended refusal (stays_refused m first more refusal e)
          ∙ ap (λ h. without_open (after m h) h) (stays_heard m first more refusal e) ∙ sym (closed_refused first false refusal e) in
          record { rest = []; is = same ∙ sym (append-nil (closed_after set [] first false)); before = every (λ event. All (λ (late : Event). event.tuple.at < late.tuple.at) []) (λ event. All-nil (λ (late : Event). event.tuple.at < late.tuple.at)) (events_in (closed_after set [] first false)) }
      by_refusal None e =
          let on = go_on_after set [] first more e in
          let heard = heard_from m first in
          let behind = heard_from (after m heard) more in
          let at_end = ended && is_none (refused_from m (first ++ more)) in
          let goes = goes_on_later m heard behind (without_open (after m heard) heard) (goes_on_closed m heard behind (heard_in_time first m) (heard_in_time more (after m heard))) at_end in
          subst (λ h. GoesOnLater (cond at_end h (without_open (after m h) h)) (closed_after set [] first false)) (sym on.heard) goes

-- the report of a text that goes on begins with that of the text
pub reports_grow : (set : QuerySet) (text more : List ℕ) (ended : Bool) → (rest : List ℕ) × (report_of_closed set (text ++ more) ended ≡ report_of_closed set text false ++ rest)
reports_grow set text more ended =
    let on = lines_on text more ended in
    let goes = closed_grows set (lines text false) on.0 ended in
    let closed = closed_after set [] (lines text false) false in (
      flat_map (course_epoch set (closed ++ goes.rest)) (times (events_in goes.rest)),
      ap (λ ls. course_report set (closed_after set [] ls ended)) on.1 ∙ ap (course_report set) goes.is ∙ course_report_grows set closed goes.rest goes.before,
    )
