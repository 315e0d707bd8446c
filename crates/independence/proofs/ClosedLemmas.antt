-- What is closed of courses with the same entries, and the programs at a time.
use Rattle.std.proofs.Common.{◌≡◌, ◌∙◌, ℕ, ◌==◌, [], ◌∷◌, Bool, true, false, not, ◌&&◌, cond, refl, sym, ap, subst, append-nil}
use Rattle.std.specs.Prelude.{Option, is_none}
use Rattle.std.specs.List.{AllZip, filter}
use Rattle.semantics.specs.Programs.{Program}
use Rattle.courses.specs.Course.{Adds, Course, CourseEntry, Drops, Hears, Moment, after, after_entry, events_in}
use Rattle.courses.specs.declared.refusal.Refusal.{Refusal}
use Rattle.courses.specs.Heard.{is_before_last, is_seen, without_open}
use Rattle.courses.specs.Reports.{program_at}
use Rattle.courses.proofs.PartedLemmas.{goes_on_closed}
use Rattle.courses.proofs.MomentLemmas.{AreInTime}
use Rattle.independence.specs.Courses.{AreOneEntry}
use Rattle.independence.specs.Hearing.{AreTheSameEvents}
use Rattle.independence.proofs.InsideLemmas.{Tables}
use Rattle.independence.proofs.CourseLemmas.{GoAlong, along-end, along-entries, along-front}

module _ (a b : Tables) where
  -- two courses with the same entries
  abbrev AreOne : Course → Course → Type 0
  AreOne course other = AllZip (AreOneEntry a.streams b.streams) course other

  -- have the same events, by induction on them
  pub same-events : (course other : Course) → AreOne course other → AreTheSameEvents a.streams b.streams (events_in course) (events_in other)
  same-events [] [] same = tt
  same-events [] (y ∷ other) same = absurd same
  same-events (x ∷ course) [] same = absurd same
  same-events (Hears event ∷ course) (Hears twin ∷ other) same = (same.0, same-events course other same.1)
  same-events (Adds added ∷ course) (Adds twin ∷ other) same = same-events course other same.1
  same-events (Drops query ∷ course) (Drops twin ∷ other) same = same-events course other same.1
  same-events (Hears event ∷ course) (Adds twin ∷ other) same = absurd same.0
  same-events (Hears event ∷ course) (Drops twin ∷ other) same = absurd same.0
  same-events (Adds added ∷ course) (Hears twin ∷ other) same = absurd same.0
  same-events (Adds added ∷ course) (Drops twin ∷ other) same = absurd same.0
  same-events (Drops query ∷ course) (Hears twin ∷ other) same = absurd same.0
  same-events (Drops query ∷ course) (Adds twin ∷ other) same = absurd same.0

  -- an entry is kept in both, or in neither
  kept-same : (seen : Option ℕ) (x y : CourseEntry) → AreOneEntry a.streams b.streams x y → is_before_last seen x ≡ is_before_last seen y
  kept-same seen (Hears event) (Hears twin) one = ap (λ tuple. not (is_seen seen tuple.at)) one.tuples_are
  kept-same seen (Adds added) (Adds twin) one = refl
  kept-same seen (Drops query) (Drops twin) one = refl
  kept-same seen (Hears event) (Adds twin) one = absurd one
  kept-same seen (Hears event) (Drops twin) one = absurd one
  kept-same seen (Adds added) (Hears twin) one = absurd one
  kept-same seen (Adds added) (Drops twin) one = absurd one
  kept-same seen (Drops query) (Hears twin) one = absurd one
  kept-same seen (Drops query) (Adds twin) one = absurd one

  -- one entry more, in both or in neither
  more-same : (p q : Bool) (x y : CourseEntry) (course other : Course) → p ≡ q → AreOneEntry a.streams b.streams x y → AreOne course other → AreOne (cond p (x ∷ course) course) (cond q (y ∷ other) other)
  more-same true true x y course other e one rest = (one, rest)
  more-same false false x y course other e one rest = rest
  more-same true false x y course other e one rest = cc
  more-same false true x y course other e one rest = cc

  -- the same entries are kept, by induction on them
  filter-same : (seen : Option ℕ) (course other : Course) → AreOne course other → AreOne (filter (is_before_last seen) course) (filter (is_before_last seen) other)
  filter-same seen [] [] same = tt
  filter-same seen [] (y ∷ other) same = absurd same
  filter-same seen (x ∷ course) [] same = absurd same
  filter-same seen (x ∷ course) (y ∷ other) same =
      more-same (is_before_last seen x) (is_before_last seen y) x y (filter (is_before_last seen) course) (filter (is_before_last seen) other) (kept-same seen x y same.0) same.0 (filter-same seen course other same.1)

  -- what is closed, where the same epoch is open or none
  open-same : (m n : Moment) (course other : Course) → m.seen ≡ n.seen → m.is_open ≡ n.is_open → AreOne course other → AreOne (without_open m course) (without_open n other)
  open-same m n course other seen is_open same =
      subst (λ (p : Option ℕ × Bool). AreOne (cond m.is_open (filter (is_before_last m.seen) course) course) (cond p.1 (filter (is_before_last p.0) other) other)) (λ i. (seen i, is_open i)) (by-open m.is_open)
    where
      by-open : (b : Bool) → AreOne (cond b (filter (is_before_last m.seen) course) course) (cond b (filter (is_before_last m.seen) other) other)
      by-open true = filter-same m.seen course other same
      by-open false = same

module _ (a b : Tables) (Along : Moment → Moment → Type 0) where
  -- the same epoch is open at both moments, or none
  module _ (seen-same : (m n : Moment) → Along m n → (m.seen ≡ n.seen) × (m.is_open ≡ n.is_open)) (m n : Moment) (mine theirs : Course) (along : GoAlong a b Along m n mine theirs) (timely : AreInTime m mine) (timely_too : AreInTime n theirs) where
    -- the closed part goes along
    closed-along : GoAlong a b Along m n (without_open (after m mine) mine) (without_open (after n theirs) theirs)
    closed-along =
        let on = (goes_on_closed m mine [] timely tt).parts in
        let on_too = (goes_on_closed n theirs [] timely_too tt).parts in
        let end = seen-same (after m mine) (after n theirs) (along-end a b Along m n mine theirs along) in
        let same = open-same a b (after m mine) (after n theirs) mine theirs end.0 end.1 (along-entries a b Along m n mine theirs along) in
        along-front a b Along m n (without_open (after m mine) mine) (without_open (after n theirs) theirs) on.rest on_too.rest same
        (subst (λ (p : Course × Course). GoAlong a b Along m n p.0 p.1) (λ i. ((sym (append-nil mine) ∙ on.is) i, (sym (append-nil theirs) ∙ on_too.is) i)) along)

    -- so does what a text closes that has ended or not, where the same line is refused
    pub ended-along : (ended : Bool) (o p : Option Refusal) → o ≡ p → GoAlong a b Along m n (cond (ended && is_none o) mine (without_open (after m mine) mine)) (cond (ended && is_none p) theirs (without_open (after n theirs) theirs))
    ended-along ended o p same =
        subst (λ p. GoAlong a b Along m n (cond (ended && is_none o) mine (without_open (after m mine) mine)) (cond (ended && is_none p) theirs (without_open (after n theirs) theirs))) same (by-end (ended && is_none o))
      where
        by-end : (all : Bool) → GoAlong a b Along m n (cond all mine (without_open (after m mine) mine)) (cond all theirs (without_open (after n theirs) theirs))
        by-end true = along
        by-end false = closed-along

  -- the programs at a time are those of two moments that are along each other
  pub record AreAtTime (program other : Program) : Type 0 where
    pub moment : Moment
    pub twin : Moment
    pub along : Along moment twin
    pub program_is : program ≡ moment.set.program
    pub other_is : other ≡ twin.set.program

  -- by induction on the courses
  pub at-time : (m n : Moment) (course other : Course) → GoAlong a b Along m n course other → (time : ℕ) → AreAtTime (program_at m course time) (program_at n other time)
  at-time m n [] [] along time = record { moment = m; twin = n; along = along; program_is = refl; other_is = refl }
  at-time m n [] (y ∷ other) along time = absurd along
  at-time m n (x ∷ course) [] along time = absurd along
  at-time m n (Hears event ∷ course) (Hears twin ∷ other) along time =
      subst (λ at. AreAtTime (cond (event.tuple.at == time) m.set.program (program_at p course time)) (cond (at == time) n.set.program (program_at q other time))) (ap (λ tuple. tuple.at) along.1.tuples_are) (by-test (event.tuple.at == time) (at-time p q course other along.2 time))
    where
      p : Moment
      p = after_entry m (Hears event)

      q : Moment
      q = after_entry n (Hears twin)

      by-test : (here : Bool) → AreAtTime (program_at p course time) (program_at q other time) → AreAtTime (cond here m.set.program (program_at p course time)) (cond here n.set.program (program_at q other time))
      by-test true rest = record { moment = m; twin = n; along = along.0; program_is = refl; other_is = refl }
      by-test false rest = rest
  at-time m n (Adds added ∷ course) (Adds twin ∷ other) along time = at-time (after_entry m (Adds added)) (after_entry n (Adds twin)) course other along.2 time
  at-time m n (Drops query ∷ course) (Drops twin ∷ other) along time = at-time (after_entry m (Drops query)) (after_entry n (Drops twin)) course other along.2 time
  at-time m n (Hears event ∷ course) (Adds twin ∷ other) along time = absurd along.1
  at-time m n (Hears event ∷ course) (Drops twin ∷ other) along time = absurd along.1
  at-time m n (Adds added ∷ course) (Hears twin ∷ other) along time = absurd along.1
  at-time m n (Adds added ∷ course) (Drops twin ∷ other) along time = absurd along.1
  at-time m n (Drops query ∷ course) (Hears twin ∷ other) along time = absurd along.1
  at-time m n (Drops query ∷ course) (Adds twin ∷ other) along time = absurd along.1
