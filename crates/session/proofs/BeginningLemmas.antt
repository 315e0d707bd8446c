-- The events of a sound course that leads to a catalogue are on its declared streams.
use Rattle.std.proofs.Common.{◌≡◌, ◌∙◌, sym, ap, refl, subst, ℕ, zero, suc, ◌+◌, ◌-◌, ◌<◌, ◌≤◌, true, false, length, List, [], ◌∷◌, ◌++◌, Some, slice_get, inl, inr, arith}
use Rattle.std.specs.Prelude.{◌↔◌}
use Rattle.std.specs.List.{All}
use Rattle.std.proofs.lemmas.Bool.{cases_lt}
use Rattle.std.proofs.lemmas.List.Elements.{All-weaker}
use Rattle.semantics.specs.Histories.{Event}
use Rattle.semantics.specs.Kinds.{HasKinds}
use Rattle.splitter.specs.Chains.{hidden_end}
use Rattle.stream_schema.specs.Streams.{Entry, hidden_entries, renamed, retired_name}
use Rattle.cel_types.specs.SourceLaws.{kinds_in}
use Rattle.catalogue.specs.Catalogued.{Catalogued}
use Rattle.catalogue.specs.Standing.{StandsInOrder}
use Rattle.catalogue.specs.Typing.{published_by}
use Rattle.courses.specs.Course.{Adds, Course, CourseEntry, Drops, Hears, Moment, after, after_entry, events_in, set_after, start}
use Rattle.courses.specs.DeclaredFirst.{HasDeclaredFirst}
use Rattle.courses.specs.QuerySet.{QuerySet, newcomer, set_in}
use Rattle.courses.specs.Sound.{IsSoundCourse}
use Rattle.courses.proofs.DeclaredLemmas.{catalogue_first}
use Rattle.courses.proofs.SoundLemmas.{IsOfSet, events_of_set}
use Rattle.session.specs.SessionView.{AreDeclared}

-- an item stands at its place in a longer list
there_longer : (xs ys : List Entry) (place : ℕ) (entry : Entry) → slice_get xs place ≡ Some entry → slice_get (xs ++ ys) place ≡ Some entry
there_longer [] ys place entry e = cc
there_longer (x ∷ xs) ys zero entry e = e
there_longer (x ∷ xs) ys (suc place) entry e = there_longer xs ys place entry e

-- what stands right behind a list
right_behind : (xs : List Entry) (y : Entry) (ys : List Entry) → slice_get (xs ++ y ∷ ys) (length xs) ≡ Some y
right_behind [] y ys = refl
right_behind (x ∷ xs) y ys = right_behind xs y ys

-- a stream is told to be declared as before, where one has another name
told_as_before : (streams : List Entry) (gone : ℕ) (name : List ℕ) (stream : ℕ) (entry : Entry) → slice_get streams stream ≡ Some entry
    → (now : Entry) × (slice_get (renamed streams gone name) stream ≡ Some now) × (now.declared ≡ entry.declared)
told_as_before [] gone name stream entry e = cc
told_as_before (s ∷ streams) zero name zero entry e =
    (record { name = name; schema = s.schema; declared = s.declared }, refl, (let same : s ≡ entry = cc in ap (λ (x : Entry). x.declared) same))
told_as_before (s ∷ streams) zero name (suc stream) entry e = (entry, e, refl)
told_as_before (s ∷ streams) (suc gone) name zero entry e = (entry, e, refl)
told_as_before (s ∷ streams) (suc gone) name (suc stream) entry e = told_as_before streams gone name stream entry e

-- and there are as many
as_many : (streams : List Entry) (gone : ℕ) (name : List ℕ) → length (renamed streams gone name) ≡ length streams
as_many [] gone name = refl
as_many (s ∷ streams) zero name = refl
as_many (s ∷ streams) (suc gone) name = let rest = as_many streams gone name in omega (arith, rest)

-- the declared streams are just the first ones, which are all streams of the table
record AreJustFirst (set : QuerySet) : Type 0 where
  told : (stream : ℕ) (entry : Entry) → slice_get set.streams stream ≡ Some entry → (entry.declared ≡ true) ↔ (stream < set.program.declared)
  within : set.program.declared ≤ length set.streams

-- where they are so after an entry, they were so before it: a query that comes publishes behind them, since it isn't told to be declared
before_entry : (m : Moment) (entry : CourseEntry) → AreJustFirst (after_entry m entry).set → AreJustFirst m.set
before_entry m (Hears event) then = then
before_entry m (Adds added) then = record {
  told = λ stream entry there. then.told stream entry (there_longer m.set.streams more stream entry there);
  within = elim (cases_lt (length m.set.streams) m.set.program.declared) [ inl less ↦ absurd (behind less) | inr not_less ↦ not_less ];
}
  where
    published : Entry
    published = published_by added.statement added.schema

    hidden : List Entry
    hidden = hidden_entries (length m.set.streams + 1) (hidden_end (newcomer m.set added m.seen) - (length m.set.streams + 1))

    more : List Entry
    more = published ∷ hidden

    behind : length m.set.streams < m.set.program.declared → ⊥
    behind less = let wrong : false ≡ true = (then.told (length m.set.streams) published (right_behind m.set.streams published hidden)).1 less in cc
before_entry m (Drops query) then = record {
  told = λ stream entry there.
      let now = told_as_before m.set.streams query.stream (retired_name query.stream) stream entry there in
      let is = then.told stream now.0 now.1 in
      (λ declared. is.0 (now.2 ∙ declared), λ less. sym now.2 ∙ is.1 less);
  within = let many = as_many m.set.streams query.stream (retired_name query.stream) in let within = then.within in omega (arith, many, within);
}

-- by induction on the course
before_course : (m : Moment) (course : Course) → AreJustFirst (after m course).set → AreJustFirst m.set
before_course m [] last = last
before_course m (entry ∷ course) last = before_entry m entry (before_course (after_entry m entry) course last)

-- those of a catalogue are
just_first : (c : Catalogued) → StandsInOrder c → AreJustFirst (set_in c)
just_first c standing = record { told = standing.told; within = let first = catalogue_first c standing in first.within }

-- the events of a sound course are on declared streams, and have their kinds
pub past_declared : (c : Catalogued) (set : QuerySet) (past : Course) → StandsInOrder c → IsSoundCourse set past → set_in c ≡ set_after set past → AreDeclared c (events_in past)
past_declared c set past standing sound leads =
    let just : AreJustFirst set = before_course (start set) past (subst AreJustFirst leads (just_first c standing)) in
    let first : HasDeclaredFirst set = record { told = λ stream entry there declared. (just.told stream entry there).0 declared; within = just.within } in
    let of_last = events_of_set (start set) past first sound in
    let are : All (IsOfSet (set_in c)) (events_in past) = subst (λ (last : QuerySet). All (IsOfSet last) (events_in past)) (sym leads) of_last in (
      All-weaker (IsOfSet (set_in c)) (λ (event : Event). event.stream < c.declared) (λ event is. is.declared) (events_in past) are,
      All-weaker (IsOfSet (set_in c)) (λ (event : Event). HasKinds (kinds_in c.streams event.stream) event.tuple) (λ event is. is.kinds) (events_in past) are,
    )
