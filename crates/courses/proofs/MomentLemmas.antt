-- Moments of courses whose entries come in time.
use Rattle.std.proofs.Common.{◌≡◌, ◌∙◌, sym, ap, refl, ℕ, ◌<◌, ◌≤◌, Bool, true, false, cond, nat_le, nat_lt, [], ◌∷◌, ◌++◌, Option, Some, None, arith}
use Rattle.std.specs.Bool.{⊤}
use Rattle.std.specs.List.{All}
use Rattle.std.proofs.lemmas.Bool.{leb-false, ltb-false}
use Rattle.std.proofs.lemmas.List.Elements.{All-cons, All-nil, All-weaker}
use Rattle.semantics.specs.Histories.{Event}
use Rattle.semantics.specs.Laws.{NeverFalls}
use Rattle.courses.specs.declared.refusal.Refusal.TheVariants.{IsOutOfOrder}
use Rattle.courses.specs.Course.{Adds, Course, CourseEntry, Drops, Hears, Moment, after, after_entry, events_in}
use Rattle.courses.specs.Heard.{disorder}

-- the moment after two courses, one behind the other
pub after-append : (m : Moment) (xs ys : Course) → after m (xs ++ ys) ≡ after (after m xs) ys
after-append m [] ys = refl
after-append m (entry ∷ xs) ys = after-append (after_entry m entry) xs ys

-- the events of two courses, one behind the other
pub events_in-append : (xs ys : Course) → events_in (xs ++ ys) ≡ events_in xs ++ events_in ys
events_in-append [] ys = refl
events_in-append (Hears event ∷ xs) ys = ap (λ events. event ∷ events) (events_in-append xs ys)
events_in-append (Adds added ∷ xs) ys = events_in-append xs ys
events_in-append (Drops query ∷ xs) ys = events_in-append xs ys

-- an event is in time; any other entry may always come
abbrev pub IsInTime : Moment → CourseEntry → Type 0
IsInTime m (Hears event) = disorder 0 m.is_open m.seen event.tuple.at ≡ None
IsInTime m (Adds added) = ⊤
IsInTime m (Drops query) = ⊤

-- each entry is in time after those before it
abbrev pub AreInTime : Moment → Course → Type 0
AreInTime m [] = ⊤
AreInTime m (entry ∷ course) = IsInTime m entry × AreInTime (after_entry m entry) course

-- two courses, one behind the other
pub in_time-append : (m : Moment) (xs ys : Course) → AreInTime m xs → AreInTime (after m xs) ys → AreInTime m (xs ++ ys)
in_time-append m [] ys first rest = rest
in_time-append m (entry ∷ xs) ys first rest = (first.0, in_time-append (after_entry m entry) xs ys first.1 rest)

-- an event that is in time isn't detected before the last one
pub not_before : (number : ℕ) (is_open : Bool) (seen at : ℕ) → disorder number is_open (Some seen) at ≡ None → seen ≤ at
not_before number true seen at e = by_test (nat_lt at seen) refl e
  where
    by_test : (b : Bool) → nat_lt at seen ≡ b → cond b (Some (IsOutOfOrder number at seen)) None ≡ None → seen ≤ at
    by_test true f e = cc
    by_test false f e = ltb-false _ _ f
not_before number false seen at e = by_test (nat_le at seen) refl e
  where
    by_test : (b : Bool) → nat_le at seen ≡ b → cond b (Some (IsOutOfOrder number at seen)) None ≡ None → seen ≤ at
    by_test true f e = cc
    by_test false f e = (let more : seen < at = leb-false _ _ f in omega arith)

-- and where its epoch is closed, it is detected after that one
pub behind_closed : (number seen at : ℕ) → disorder number false (Some seen) at ≡ None → seen < at
behind_closed number seen at e = by_test (nat_le at seen) refl e
  where
    by_test : (b : Bool) → nat_le at seen ≡ b → cond b (Some (IsOutOfOrder number at seen)) None ≡ None → seen < at
    by_test true f e = cc
    by_test false f e = leb-false _ _ f

-- the number of the line doesn't count
pub any_number : (number other : ℕ) (is_open : Bool) (seen : Option ℕ) (at : ℕ) → disorder number is_open seen at ≡ None → disorder other is_open seen at ≡ None
any_number number other is_open None at e = refl
any_number number other true (Some seen) at e = by_test (nat_lt at seen) e
  where
    by_test : (b : Bool) → cond b (Some (IsOutOfOrder number at seen)) None ≡ None → cond b (Some (IsOutOfOrder other at seen)) None ≡ None
    by_test true e = cc
    by_test false e = refl
any_number number other false (Some seen) at e = by_test (nat_le at seen) e
  where
    by_test : (b : Bool) → cond b (Some (IsOutOfOrder number at seen)) None ≡ None → cond b (Some (IsOutOfOrder other at seen)) None ≡ None
    by_test true e = cc
    by_test false e = refl

-- an event in time, where one was seen
pub seen_before : (m : Moment) (event : Event) (seen : ℕ) → m.seen ≡ Some seen → IsInTime m (Hears event) → seen ≤ event.tuple.at
seen_before m event seen e timely = not_before 0 m.is_open seen event.tuple.at (ap (λ o. disorder 0 m.is_open o event.tuple.at) (sym e) ∙ timely)

pub seen_closed : (m : Moment) (event : Event) (seen : ℕ) → m.is_open ≡ false → m.seen ≡ Some seen → IsInTime m (Hears event) → seen < event.tuple.at
seen_closed m event seen closed e timely = behind_closed 0 seen event.tuple.at ((λ i. disorder 0 (sym closed i) (sym e i) event.tuple.at) ∙ timely)

-- the last time never falls, by induction on the course
pub seen_up : (m : Moment) (course : Course) (seen last : ℕ) → AreInTime m course → m.seen ≡ Some seen → (after m course).seen ≡ Some last → seen ≤ last
seen_up m [] seen last timely e f = let same : seen ≡ last = (let both = sym e ∙ f in cc) in omega (arith, same)
seen_up m (Hears event ∷ course) seen last timely e f =
    let first = seen_before m event seen e timely.0 in
    let rest = seen_up (after_entry m (Hears event)) course event.tuple.at last timely.1 refl f in omega (arith, first, rest)
seen_up m (Adds added ∷ course) seen last timely e f = seen_up (after_entry m (Adds added)) course seen last timely.1 e f
seen_up m (Drops query ∷ course) seen last timely e f = seen_up (after_entry m (Drops query)) course seen last timely.1 e f

-- the events that come in time aren't detected before the last one
pub events_up : (m : Moment) (course : Course) (seen : ℕ) → AreInTime m course → m.seen ≡ Some seen → All (λ event. seen ≤ event.tuple.at) (events_in course)
events_up m [] seen timely e = All-nil (λ (event : Event). seen ≤ event.tuple.at)
events_up m (Hears event ∷ course) seen timely e =
    let first = seen_before m event seen e timely.0 in
    All-cons (λ (event : Event). seen ≤ event.tuple.at) event (events_in course) first
    (All-weaker (λ (late : Event). event.tuple.at ≤ late.tuple.at) (λ late. seen ≤ late.tuple.at) (λ late up. omega (arith, first, up)) (events_in course)
    (events_up (after_entry m (Hears event)) course event.tuple.at timely.1 refl))
events_up m (Adds added ∷ course) seen timely e = events_up (after_entry m (Adds added)) course seen timely.1 e
events_up m (Drops query ∷ course) seen timely e = events_up (after_entry m (Drops query)) course seen timely.1 e

-- and where its epoch is closed, they are detected after it
pub events_behind : (m : Moment) (course : Course) (seen : ℕ) → AreInTime m course → m.is_open ≡ false → m.seen ≡ Some seen → All (λ event. seen < event.tuple.at) (events_in course)
events_behind m [] seen timely closed e = All-nil (λ (event : Event). seen < event.tuple.at)
events_behind m (Hears event ∷ course) seen timely closed e =
    let first = seen_closed m event seen closed e timely.0 in
    All-cons (λ (event : Event). seen < event.tuple.at) event (events_in course) first
    (All-weaker (λ (late : Event). event.tuple.at ≤ late.tuple.at) (λ late. seen < late.tuple.at) (λ late up. omega (arith, first, up)) (events_in course)
    (events_up (after_entry m (Hears event)) course event.tuple.at timely.1 refl))
events_behind m (Adds added ∷ course) seen timely closed e = events_behind (after_entry m (Adds added)) course seen timely.1 refl e
events_behind m (Drops query ∷ course) seen timely closed e = events_behind (after_entry m (Drops query)) course seen timely.1 refl e

-- no event that was heard is detected after the last one
pub events_low : (m : Moment) (course : Course) (last : ℕ) → AreInTime m course → (after m course).seen ≡ Some last → All (λ event. event.tuple.at ≤ last) (events_in course)
events_low m [] last timely f = All-nil (λ (event : Event). event.tuple.at ≤ last)
events_low m (Hears event ∷ course) last timely f =
    All-cons (λ (event : Event). event.tuple.at ≤ last) event (events_in course) (seen_up (after_entry m (Hears event)) course event.tuple.at last timely.1 refl f)
    (events_low (after_entry m (Hears event)) course last timely.1 f)
events_low m (Adds added ∷ course) last timely f = events_low (after_entry m (Adds added)) course last timely.1 f
events_low m (Drops query ∷ course) last timely f = events_low (after_entry m (Drops query)) course last timely.1 f

-- where no event was seen in the end, there is none
pub events_none : (m : Moment) (course : Course) → (after m course).seen ≡ None → events_in course ≡ []
events_none m [] f = refl
events_none m (Hears event ∷ course) f = absurd (seen_some (after_entry m (Hears event)) course event.tuple.at refl f)
  where
    seen_some : (m : Moment) (course : Course) (seen : ℕ) → m.seen ≡ Some seen → (after m course).seen ≡ None → ⊥
    seen_some m [] seen e f = let both = sym e ∙ f in cc
    seen_some m (Hears event ∷ course) seen e f = seen_some (after_entry m (Hears event)) course event.tuple.at refl f
    seen_some m (Adds added ∷ course) seen e f = seen_some (after_entry m (Adds added)) course seen e f
    seen_some m (Drops query ∷ course) seen e f = seen_some (after_entry m (Drops query)) course seen e f
events_none m (Adds added ∷ course) f = events_none (after_entry m (Adds added)) course f
events_none m (Drops query ∷ course) f = events_none (after_entry m (Drops query)) course f

-- the history of a course whose entries come in time never falls
pub never_falls : (m : Moment) (course : Course) → AreInTime m course → NeverFalls (events_in course)
never_falls m [] timely = tt
never_falls m (Hears event ∷ course) timely = (events_up (after_entry m (Hears event)) course event.tuple.at timely.1 refl, never_falls (after_entry m (Hears event)) course timely.1)
never_falls m (Adds added ∷ course) timely = never_falls (after_entry m (Adds added)) course timely.1
never_falls m (Drops query ∷ course) timely = never_falls (after_entry m (Drops query)) course timely.1
