-- The closed part of a course, and of one that goes on.
use Rattle.std.proofs.Common.{◌≡◌, ◌∙◌, sym, ap, refl, subst, ℕ, ◌+◌, ◌<◌, ◌≤◌, ◌==◌, Bool, true, false, not, cond, [], ◌∷◌, ◌++◌, Option, Some, None, append_assoc, arith, eqb-true}
use Rattle.std.specs.List.{All, filter}
use Rattle.std.proofs.lemmas.Bool.Decides.{nat_tests}
use Rattle.std.proofs.lemmas.List.Elements.{All-append, All-cons, All-head, All-nil, All-tail, All-weaker}
use Rattle.event_types.proofs.NumberLemmas.{is_other}
use Rattle.semantics.specs.Histories.{Event}
use Rattle.semantics.proofs.ListLemmas.{every}
use Rattle.courses.specs.Course.{Adds, Course, Drops, Hears, Moment, after, after_entry, events_in}
use Rattle.courses.specs.Heard.{is_before_last, without_open}
use Rattle.courses.proofs.MomentLemmas.{AreInTime, after-append, events_behind, events_in-append, events_low, events_none, events_up, seen_before, seen_closed, seen_up}

-- an epoch that is open in the end, and is that of an event behind a closed one, is later
closed_up : (m : Moment) (course : Course) (seen last : ℕ) → AreInTime m course → m.is_open ≡ false → m.seen ≡ Some seen → (after m course).is_open ≡ true → (after m course).seen ≡ Some last → seen < last
closed_up m [] seen last timely closed e open_then f = cc
closed_up m (Hears event ∷ course) seen last timely closed e open_then f =
    let first = seen_closed m event seen closed e timely.0 in
    let rest = seen_up (after_entry m (Hears event)) course event.tuple.at last timely.1 refl f in omega (arith, first, rest)
closed_up m (Adds added ∷ course) seen last timely closed e open_then f = closed_up (after_entry m (Adds added)) course seen last timely.1 refl e open_then f
closed_up m (Drops query ∷ course) seen last timely closed e open_then f = closed_up (after_entry m (Drops query)) course seen last timely.1 refl e open_then f

-- where the last time was seen already, all that comes is events of the open epoch
none_before : (m : Moment) (course : Course) (last : ℕ) → AreInTime m course → m.seen ≡ Some last → (after m course).is_open ≡ true → (after m course).seen ≡ Some last → filter (is_before_last (Some last)) course ≡ []
none_before m [] last timely e open_then f = refl
none_before m (Hears event ∷ course) last timely e open_then f =
    let n = after_entry m (Hears event) in
    let low = seen_before m event last e timely.0 in
    let high = seen_up n course event.tuple.at last timely.1 refl f in
    let same : event.tuple.at ≡ last = omega (arith, low, high) in
    let kept = filter (is_before_last (Some last)) course in
    ap (λ b. cond (not b) (Hears event ∷ kept) kept) (equal event.tuple.at last same) ∙ none_before n course last timely.1 (ap Some same) open_then f
  where
    equal : (at last : ℕ) → at ≡ last → (at == last) ≡ true
    equal at last same = grind (arith, nat_tests)
none_before m (Adds added ∷ course) last timely e open_then f = let up = closed_up (after_entry m (Adds added)) course last last timely.1 refl e open_then f in absurd (omega (arith, up))
none_before m (Drops query ∷ course) last timely e open_then f = let up = closed_up (after_entry m (Drops query)) course last last timely.1 refl e open_then f in absurd (omega (arith, up))

-- a course is a front whose events are detected before a time, and a rest whose events aren't
pub record IsParted (time : ℕ) (course front : Course) : Type 0 where
  pub rest : Course
  pub is : course ≡ front ++ rest
  pub early : All (λ event. event.tuple.at < time) (events_in front)
  pub late : All (λ event. time ≤ event.tuple.at) (events_in rest)

below : (at last : ℕ) → at ≤ last → (at == last) ≡ false → at < last
below at last up other = grind (arith, nat_tests)

-- the events of the open epoch stand at the end: an induction on the course
parted : (m : Moment) (course : Course) (last : ℕ) → AreInTime m course → (after m course).is_open ≡ true → (after m course).seen ≡ Some last → IsParted last course (filter (is_before_last (Some last)) course)
parted m [] last timely open_then f = record { rest = []; is = refl; early = All-nil (λ (event : Event). event.tuple.at < last); late = All-nil (λ (event : Event). last ≤ event.tuple.at) }
parted m (Hears event ∷ course) last timely open_then f = by_test (event.tuple.at == last) refl (parted n course last timely.1 open_then f)
  where
    n : Moment
    n = after_entry m (Hears event)

    kept : Course
    kept = filter (is_before_last (Some last)) course

    by_test : (b : Bool) → (event.tuple.at == last) ≡ b → IsParted last course kept → IsParted last (Hears event ∷ course) (cond (not b) (Hears event ∷ kept) kept)
    by_test true e rest =
        let same : event.tuple.at ≡ last = eqb-true event.tuple.at last e in
        let none : kept ≡ [] = none_before n course last timely.1 (ap Some same) open_then f in
        record {
          rest = Hears event ∷ course;
          is = ap (λ k. k ++ Hears event ∷ course) (sym none);
          early = subst (λ k. All (λ event. event.tuple.at < last) (events_in k)) (sym none) (All-nil (λ (event : Event). event.tuple.at < last));
          late = All-cons (λ (event : Event). last ≤ event.tuple.at) event (events_in course) (omega (arith, same)) (events_up n course last timely.1 (ap Some same));
        }
    by_test false e rest =
        let up = seen_up n course event.tuple.at last timely.1 refl f in
        record {
          rest = rest.rest;
          is = ap (λ k. Hears event ∷ k) rest.is;
          early = All-cons (λ (event : Event). event.tuple.at < last) event (events_in kept) (below event.tuple.at last up e) rest.early;
          late = rest.late;
        }
parted m (Adds added ∷ course) last timely open_then f =
    let then = parted (after_entry m (Adds added)) course last timely.1 open_then f in record { rest = then.rest; is = ap (λ k. Adds added ∷ k) then.is; early = then.early; late = then.late }
parted m (Drops query ∷ course) last timely open_then f =
    let then = parted (after_entry m (Drops query)) course last timely.1 open_then f in record { rest = then.rest; is = ap (λ k. Drops query ∷ k) then.is; early = then.early; late = then.late }

-- an epoch that is open isn't that of a time before another
abbrev pub IsOpenFrom : ℕ → Moment → Type 0
IsOpenFrom time m = m.is_open ≡ true → (last : ℕ) → m.seen ≡ Some last → time ≤ last

-- by induction on the course
open_from : (time : ℕ) (m : Moment) (course : Course) → IsOpenFrom time m → All (λ event. time ≤ event.tuple.at) (events_in course) → IsOpenFrom time (after m course)
open_from time m [] from late = from
open_from time m (Hears event ∷ course) from late =
    let first = All-head (λ (event : Event). time ≤ event.tuple.at) event (events_in course) late in
    open_from time (after_entry m (Hears event)) course (λ open_then last e. (let same : event.tuple.at ≡ last = cc in omega (arith, first, same))) (All-tail (λ (event : Event). time ≤ event.tuple.at) event (events_in course) late)
open_from time m (Adds added ∷ course) from late = open_from time (after_entry m (Adds added)) course (λ open_then last e. cc) late
open_from time m (Drops query ∷ course) from late = open_from time (after_entry m (Drops query)) course (λ open_then last e. cc) late

-- the entries that are no events of one time are all, where no event was seen, or where all are earlier
pub all_kept : (course : Course) → filter (is_before_last None) course ≡ course
all_kept [] = refl
all_kept (Hears event ∷ course) = ap (λ k. Hears event ∷ k) (all_kept course)
all_kept (Adds added ∷ course) = ap (λ k. Adds added ∷ k) (all_kept course)
all_kept (Drops query ∷ course) = ap (λ k. Drops query ∷ k) (all_kept course)

pub earlier_kept : (last : ℕ) (course : Course) → All (λ event. event.tuple.at < last) (events_in course) → filter (is_before_last (Some last)) course ≡ course
earlier_kept last [] early = refl
earlier_kept last (Hears event ∷ course) early =
    let less = All-head (λ (event : Event). event.tuple.at < last) event (events_in course) early in
    let other : (event.tuple.at == last) ≡ false = is_other event.tuple.at last (λ same. omega (arith, less, same)) in
    let kept = filter (is_before_last (Some last)) course in
    ap (λ b. cond (not b) (Hears event ∷ kept) kept) other ∙ ap (λ k. Hears event ∷ k) (earlier_kept last course (All-tail (λ (event : Event). event.tuple.at < last) event (events_in course) early))
earlier_kept last (Adds added ∷ course) early = ap (λ k. Adds added ∷ k) (earlier_kept last course early)
earlier_kept last (Drops query ∷ course) early = ap (λ k. Drops query ∷ k) (earlier_kept last course early)

-- what holds of the events of a course holds of those that are kept
pub events_kept : (P : Event → Type 0) (seen : Option ℕ) (course : Course) → All P (events_in course) → All P (events_in (filter (is_before_last seen) course))
events_kept P seen [] all = All-nil P
events_kept P seen (Hears event ∷ course) all = by_test (not_last event) (All-head P event (events_in course) all) (events_kept P seen course (All-tail P event (events_in course) all))
  where
    not_last : Event → Bool
    not_last event = is_before_last seen (Hears event)

    by_test : (b : Bool) → P event → All P (events_in (filter (is_before_last seen) course)) → All P (events_in (cond b (Hears event ∷ filter (is_before_last seen) course) (filter (is_before_last seen) course)))
    by_test true first rest = All-cons P event (events_in (filter (is_before_last seen) course)) first rest
    by_test false first rest = rest
events_kept P seen (Adds added ∷ course) all = events_kept P seen course all
events_kept P seen (Drops query ∷ course) all = events_kept P seen course all

-- the closed part of a course is a front of each course that goes on from it, whose other events are later
pub record GoesOnClosed (m : Moment) (course more front : Course) : Type 0 where
  pub time : ℕ
  pub parts : IsParted time (course ++ more) front
  pub open_late : IsOpenFrom time (after m (course ++ more))

module _ (m : Moment) (course more : Course) (timely : AreInTime m course) (timely_more : AreInTime (after m course) more) where
  abbrev n : Moment
  n = after m course

  open_behind : (time : ℕ) → IsOpenFrom time n → All (λ event. time ≤ event.tuple.at) (events_in more) → IsOpenFrom time (after m (course ++ more))
  open_behind time from late = subst (IsOpenFrom time) (sym (after-append m course more)) (open_from time n more from late)

  no_events : n.seen ≡ None → All (λ event. event.tuple.at < 0) (events_in course)
  no_events e = subst (λ events. All (λ event. event.tuple.at < 0) events) (sym (events_none m course e)) (All-nil (λ (event : Event). event.tuple.at < 0))

  from_none : n.seen ≡ None → GoesOnClosed m course more course
  from_none e =
      let late = every (λ (event : Event). 0 ≤ event.tuple.at) (λ event. omega arith) (events_in more) in
      record {
        time = 0;
        parts = record { rest = more; is = refl; early = no_events e; late = late };
        open_late = open_behind 0 (λ open_then last f. omega arith) late;
      }

  by_moment : (is_open : Bool) (seen : Option ℕ) → n.is_open ≡ is_open → n.seen ≡ seen → GoesOnClosed m course more (cond is_open (filter (is_before_last seen) course) course)
  by_moment true (Some last) open_now e =
      let parts = parted m course last timely open_now e in
      let front = filter (is_before_last (Some last)) course in
      let late = events_up n more last timely_more e in
      record {
        time = last;
        parts = record {
          rest = parts.rest ++ more;
          is = ap (λ k. k ++ more) parts.is ∙ append_assoc front parts.rest more;
          early = parts.early;
          late = subst (λ events. All (λ event. last ≤ event.tuple.at) events) (sym (events_in-append parts.rest more)) (All-append (λ (event : Event). last ≤ event.tuple.at) (events_in parts.rest) (events_in more) parts.late late);
        };
        open_late = open_behind last (λ open_then other f. (let same : last ≡ other = (let both = sym e ∙ f in cc) in omega (arith, same))) late;
      }
  by_moment true None open_now e = subst (GoesOnClosed m course more) (sym (all_kept course)) (from_none e)
  by_moment false (Some last) closed e =
      let late = All-weaker (λ (event : Event). last < event.tuple.at) (λ event. last + 1 ≤ event.tuple.at) (λ event less. omega (arith, less)) (events_in more) (events_behind n more last timely_more closed e) in
      record {
        time = last + 1;
        parts = record {
          rest = more;
          is = refl;
          early = All-weaker (λ (event : Event). event.tuple.at ≤ last) (λ event. event.tuple.at < last + 1) (λ event up. omega (arith, up)) (events_in course) (events_low m course last timely e);
          late = late;
        };
        open_late = open_behind (last + 1) (λ open_then other f. cc) late;
      }
  by_moment false None closed e = from_none e

  pub goes_on_closed : GoesOnClosed m course more (without_open n course)
  goes_on_closed = by_moment n.is_open n.seen refl refl
