-- The open epoch of a course, and the entries before it.
use Rattle.std.proofs.Common.{◌≡◌, ◌∙◌, sym, ap, refl, subst, ℕ, ◌<◌, ◌≤◌, ◌==◌, Bool, true, false, cond, not, nat_lt, List, [], ◌∷◌, ◌++◌, Option, Some, None, length, length-append, arith, append-nil, append_assoc}
use Rattle.std.specs.List.{All, filter}
use Rattle.std.proofs.lemmas.Bool.Decides.{nat_tests}
use Rattle.std.proofs.lemmas.Bool.{ltb-false, ltb-true}
use Rattle.std.proofs.lemmas.List.{map-append}
use Rattle.std.proofs.lemmas.List.Elements.{All-append, All-cons, All-head, All-nil, All-tail, All-weaker, filter-append}
use Rattle.semantics.specs.Histories.{Event}
use Rattle.courses.specs.Course.{Adds, Course, CourseEntry, Drops, Hears, Moment, after, after_entry, events_in, set_after, start}
use Rattle.courses.specs.Heard.{is_before_last, without_open}
use Rattle.courses.specs.Laws.{heard_alone}
use Rattle.courses.specs.QuerySet.{QuerySet}
use Rattle.courses.proofs.MomentLemmas.{AreInTime, IsInTime, after-append, events_in-append, seen_before, seen_closed}

-- an event is detected before a time; an event is detected at it
abbrev pub IsEarlier : ℕ → Event → Type 0
IsEarlier time event = event.tuple.at < time

abbrev pub IsOf : ℕ → Event → Type 0
IsOf time event = event.tuple.at ≡ time

-- no event is detected after the time that was seen; where none was, there are none
abbrev pub AreUpTo : Option ℕ → List Event → Type 0
AreUpTo None events = events ≡ []
AreUpTo (Some seen) events = All (λ event. event.tuple.at ≤ seen) events

-- a course in which no epoch is open
pub record IsResting (past : Course) (m : Moment) : Type 0 where
  pub closed : m.is_open ≡ false
  pub up_to : AreUpTo m.seen (events_in past)

-- a course at whose end the events of the open epoch stand
pub record IsParted (set : QuerySet) (past : Course) (m : Moment) : Type 0 where
  pub before : Course
  pub now : List Event
  pub time : ℕ
  pub all : past ≡ before ++ heard_alone now
  pub early : All (IsEarlier time) (events_in before)
  pub same : All (IsOf time) now
  pub some : 0 < length now
  pub seen : m.seen ≡ Some time
  pub is_open : m.is_open ≡ true
  pub set_is : m.set ≡ set_after set before

-- a course is one of the two at its moment
pub data Parts (set : QuerySet) (past : Course) (m : Moment) : Type 0 where
  Resting : IsResting past m → Parts set past m
  Parted : IsParted set past m → Parts set past m

-- the history of events alone is they themselves
pub alone_are : (events : List Event) → events_in (heard_alone events) ≡ events
alone_are [] = refl
alone_are (event ∷ events) = ap (λ es. event ∷ es) (alone_are events)

-- the events of a parted course
pub all_events : {set : QuerySet} {past : Course} {m : Moment} (p : IsParted set past m) → events_in past ≡ events_in p.before ++ p.now
all_events p = ap events_in p.all ∙ events_in-append p.before (heard_alone p.now) ∙ ap (λ events. events_in p.before ++ events) (alone_are p.now)

-- they are up to its time
parted_up : {set : QuerySet} {past : Course} {m : Moment} (p : IsParted set past m) → AreUpTo m.seen (events_in past)
parted_up {set} {past} {m} p =
    let time = p.time in
    subst (λ o. AreUpTo o (events_in past)) (sym p.seen) (subst (λ events. All (λ event. event.tuple.at ≤ time) events) (sym (all_events p))
    (All-append (λ (event : Event). event.tuple.at ≤ time) (events_in p.before) p.now
    (All-weaker (IsEarlier time) (λ event. event.tuple.at ≤ time) (λ event less. omega (arith, less)) (events_in p.before) p.early)
    (All-weaker (IsOf time) (λ event. event.tuple.at ≤ time) (λ event is. omega (arith, is)) p.now p.same)))

pub parts_up : {set : QuerySet} {past : Course} {m : Moment} → Parts set past m → AreUpTo m.seen (events_in past)
parts_up (Resting r) = r.up_to
parts_up (Parted p) = parted_up p

-- an entry that is no event leaves no epoch open
control_rests : {set : QuerySet} {past : Course} {m : Moment} (entry : CourseEntry) → Parts set past m → events_in (entry ∷ []) ≡ [] → (after_entry m entry).seen ≡ m.seen → (after_entry m entry).is_open ≡ false
    → Parts set (past ++ entry ∷ []) (after_entry m entry)
control_rests {set} {past} {m} entry parts none seen closed =
    let same : events_in (past ++ entry ∷ []) ≡ events_in past = events_in-append past (entry ∷ []) ∙ ap (λ events. events_in past ++ events) none ∙ append-nil (events_in past) in
    Resting (record { closed = closed; up_to = subst (λ o. AreUpTo o (events_in (past ++ entry ∷ []))) (sym seen) (subst (AreUpTo m.seen) (sym same) (parts_up parts)) })

-- an event of a later time than all before opens an epoch
opens : (set : QuerySet) (past : Course) (m : Moment) (event : Event) → m ≡ after (start set) past → All (IsEarlier event.tuple.at) (events_in past) → Parts set (past ++ Hears event ∷ []) (after_entry m (Hears event))
opens set past m event is early = Parted (record {
  before = past;
  now = event ∷ [];
  time = event.tuple.at;
  all = refl;
  early = early;
  same = All-cons (IsOf event.tuple.at) event [] refl (All-nil (IsOf event.tuple.at));
  some = omega arith;
  seen = refl;
  is_open = refl;
  set_is = ap (λ (n : Moment). n.set) is;
})

-- events up to a time are earlier than a later one
up_early : (seen at : ℕ) (events : List Event) → seen < at → All (λ event. event.tuple.at ≤ seen) events → All (IsEarlier at) events
up_early seen at events less = All-weaker (λ (event : Event). event.tuple.at ≤ seen) (IsEarlier at) (λ event up. omega (arith, up, less)) events

-- events up to a time that was seen are before an event that comes where no epoch is open
pub rest_early : (past : Course) (m : Moment) (event : Event) → IsResting past m → IsInTime m (Hears event) → All (IsEarlier event.tuple.at) (events_in past)
rest_early past m event r timely = by_seen m.seen refl r.up_to
  where
    by_seen : (o : Option ℕ) → m.seen ≡ o → AreUpTo o (events_in past) → All (IsEarlier event.tuple.at) (events_in past)
    by_seen None e none = subst (All (IsEarlier event.tuple.at)) (sym none) (All-nil (IsEarlier event.tuple.at))
    by_seen (Some seen) e up = up_early seen event.tuple.at (events_in past) (seen_closed m event seen r.closed e timely) up

-- all events are before a later one
pub parted_early : (set : QuerySet) (past : Course) (m : Moment) (at : ℕ) (p : IsParted set past m) → p.time < at → All (IsEarlier at) (events_in past)
parted_early set past m at p less = up_early p.time at (events_in past) less (subst (λ o. AreUpTo o (events_in past)) p.seen (parted_up p))

-- one more event of the time belongs to the open epoch
pub same_parts : (set : QuerySet) (past : Course) (m : Moment) (event : Event) (p : IsParted set past m) → event.tuple.at ≡ p.time → IsParted set (past ++ Hears event ∷ []) (after_entry m (Hears event))
same_parts set past m event p same = record {
  before = p.before;
  now = p.now ++ event ∷ [];
  time = p.time;
  all = ap (λ c. c ++ Hears event ∷ []) p.all ∙ append_assoc p.before (heard_alone p.now) (Hears event ∷ []) ∙ ap (λ c. p.before ++ c) (sym (map-append Hears p.now (event ∷ [])));
  early = p.early;
  same = All-append (IsOf p.time) p.now (event ∷ []) p.same (All-cons (IsOf p.time) event [] same (All-nil (IsOf p.time)));
  some = let n = length-append p.now (event ∷ []) in let some = p.some in omega (arith, n, some);
  seen = ap Some same;
  is_open = refl;
  set_is = p.set_is;
}

-- an event in time that isn't later is of the open epoch's time
pub same_time : (set : QuerySet) (past : Course) (m : Moment) (event : Event) (p : IsParted set past m) → IsInTime m (Hears event) → nat_lt p.time event.tuple.at ≡ false → event.tuple.at ≡ p.time
same_time set past m event p timely later =
    let low = seen_before m event p.time p.seen timely in
    let high : event.tuple.at ≤ p.time = ltb-false _ _ later in
    omega (arith, low, high)

-- one more entry that comes in time
pub parts_more : (set : QuerySet) (past : Course) (m : Moment) (entry : CourseEntry) → m ≡ after (start set) past → Parts set past m → IsInTime m entry → Parts set (past ++ entry ∷ []) (after_entry m entry)
parts_more set past m (Adds added) is parts timely = control_rests (Adds added) parts refl refl refl
parts_more set past m (Drops query) is parts timely = control_rests (Drops query) parts refl refl refl
parts_more set past m (Hears event) is (Resting r) timely = opens set past m event is (rest_early past m event r timely)
parts_more set past m (Hears event) is (Parted p) timely = by_later (nat_lt p.time event.tuple.at) refl
  where
    by_later : (b : Bool) → nat_lt p.time event.tuple.at ≡ b → Parts set (past ++ Hears event ∷ []) (after_entry m (Hears event))
    by_later true e = opens set past m event is (parted_early set past m event.tuple.at p (ltb-true _ _ e))
    by_later false e = Parted (same_parts set past m event p (same_time set past m event p timely e))

-- by induction on the later entries
parts_on : (set : QuerySet) (rest past : Course) (m : Moment) → m ≡ after (start set) past → Parts set past m → AreInTime m rest → Parts set (past ++ rest) (after m rest)
parts_on set [] past m is parts timely = subst (λ c. Parts set c m) (sym (append-nil past)) parts
parts_on set (entry ∷ rest) past m is parts timely =
    subst (λ c. Parts set c (after (after_entry m entry) rest)) (append_assoc past (entry ∷ []) rest)
    (parts_on set rest (past ++ entry ∷ []) (after_entry m entry) (ap (λ n. after_entry n entry) is ∙ sym (after-append (start set) past (entry ∷ []))) (parts_more set past m entry is parts timely.0) timely.1)

-- each course that comes in time has its parts
pub parts_of : (set : QuerySet) (course : Course) → AreInTime (start set) course → Parts set course (after (start set) course)
parts_of set course timely = parts_on set course [] (start set) refl (Resting (record { closed = refl; up_to = refl })) timely

other_time : (at time : ℕ) → at < time → (at == time) ≡ false
other_time at time less = grind (arith, nat_tests)

this_time : (at time : ℕ) → at ≡ time → (at == time) ≡ true
this_time at time same = grind (arith, nat_tests)

-- earlier entries are before the last epoch
pub keeps_early : (time : ℕ) (course : Course) → All (IsEarlier time) (events_in course) → filter (is_before_last (Some time)) course ≡ course
keeps_early time [] all = refl
keeps_early time (Hears event ∷ course) all =
    ap (λ b. cond (not b) (Hears event ∷ filter (is_before_last (Some time)) course) (filter (is_before_last (Some time)) course)) (other_time event.tuple.at time (All-head (IsEarlier time) event (events_in course) all))
    ∙ ap (λ c. Hears event ∷ c) (keeps_early time course (All-tail (IsEarlier time) event (events_in course) all))
keeps_early time (Adds added ∷ course) all = ap (λ c. Adds added ∷ c) (keeps_early time course all)
keeps_early time (Drops query ∷ course) all = ap (λ c. Drops query ∷ c) (keeps_early time course all)

-- the events of its time are not
pub drops_now : (time : ℕ) (now : List Event) → All (IsOf time) now → filter (is_before_last (Some time)) (heard_alone now) ≡ []
drops_now time [] all = refl
drops_now time (event ∷ now) all =
    ap (λ b. cond (not b) (Hears event ∷ filter (is_before_last (Some time)) (heard_alone now)) (filter (is_before_last (Some time)) (heard_alone now))) (this_time event.tuple.at time (All-head (IsOf time) event now all))
    ∙ drops_now time now (All-tail (IsOf time) event now all)

-- the course without its open epoch: all of it, or what stands before the epoch
pub rest_without : (past : Course) (m : Moment) → m.is_open ≡ false → without_open m past ≡ past
rest_without past m closed = ap (λ b. cond b (filter (is_before_last m.seen) past) past) closed

pub parted_without : (set : QuerySet) (past : Course) (m : Moment) (p : IsParted set past m) → without_open m past ≡ p.before
parted_without set past m p =
    (λ i. cond (p.is_open i) (filter (is_before_last (p.seen i)) (p.all i)) (p.all i))
    ∙ filter-append (is_before_last (Some p.time)) p.before (heard_alone p.now)
    ∙ ap (λ c. filter (is_before_last (Some p.time)) p.before ++ c) (drops_now p.time p.now p.same)
    ∙ append-nil (filter (is_before_last (Some p.time)) p.before)
    ∙ keeps_early p.time p.before p.early

-- behind an event of a later time the rest of the course is closed
pub event_without : (past : Course) (m : Moment) (event : Event) → All (IsEarlier event.tuple.at) (events_in past) → without_open (after_entry m (Hears event)) (past ++ Hears event ∷ []) ≡ past
event_without past m event early =
    filter-append (is_before_last (Some event.tuple.at)) past (Hears event ∷ [])
    ∙ ap (λ c. filter (is_before_last (Some event.tuple.at)) past ++ c) (drops_now event.tuple.at (event ∷ []) (All-cons (IsOf event.tuple.at) event [] refl (All-nil (IsOf event.tuple.at))))
    ∙ append-nil (filter (is_before_last (Some event.tuple.at)) past)
    ∙ keeps_early event.tuple.at past early

-- behind one more event of its time what is closed is the same
pub same_without : (set : QuerySet) (past : Course) (m : Moment) (event : Event) (p : IsParted set past m) → event.tuple.at ≡ p.time → without_open (after_entry m (Hears event)) (past ++ Hears event ∷ []) ≡ without_open m past
unfolding same_parts
same_without set past m event p same = parted_without set (past ++ Hears event ∷ []) (after_entry m (Hears event)) (same_parts set past m event p same) ∙ sym (parted_without set past m p)
