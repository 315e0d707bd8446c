-- Declared streams stay the first ones, with their kinds, whatever queries come and go.
use Rattle.std.proofs.Common.{◌≡◌, ◌∙◌, sym, ap, refl, ℕ, zero, suc, ◌+◌, ◌-◌, ◌<◌, ◌≤◌, true, false, length, List, [], ◌∷◌, ◌++◌, map, get_or, Option, Some, arith}
use Rattle.std.specs.Prelude.{slice_get}
use Rattle.std.specs.List.{All, range_with_len}
use Rattle.std.proofs.lemmas.List.{length-append, length-map}
use Rattle.std.proofs.lemmas.List.Elements.{All-cons, All-head, All-map, All-tail, Contains-append_left}
use Rattle.semantics.specs.Programs.{Query}
use Rattle.semantics.proofs.ListLemmas.{every}
use Rattle.semantics.proofs.StatementLemmas.{declared_there}
use Rattle.splitter.specs.Chains.{hidden_end}
use Rattle.stream_schema.specs.Schema.{kinds_of}
use Rattle.stream_schema.specs.Streams.{Entry, hidden_entries, hidden_entry, renamed, retired_name, schemas_of}
use Rattle.cel_types.specs.SourceLaws.{kinds_in}
use Rattle.catalogue.specs.Adding.{AddedQuery}
use Rattle.catalogue.specs.Catalogued.{Catalogued, program_in}
use Rattle.catalogue.specs.Standing.{StandsInOrder}
use Rattle.catalogue.specs.Typing.{published_by}
use Rattle.catalogue.proofs.TurnLemmas.{kinds_before}
use Rattle.courses.specs.Course.{Adds, Course, CourseEntry, Drops, Hears, Moment, after, after_entry}
use Rattle.courses.specs.DeclaredFirst.{HasDeclaredFirst}
use Rattle.courses.specs.QuerySet.{QuerySet, newcomer, set_in, with_added, without}

-- what stands in one list behind another stands in the first, or isn't declared
declared_before : (xs ys : List Entry) (stream : ℕ) (entry : Entry) → All (λ s. s.declared ≡ false) ys → slice_get (xs ++ ys) stream ≡ Some entry → entry.declared ≡ true → slice_get xs stream ≡ Some entry
declared_before [] [] stream entry none e declared = cc
declared_before [] (y ∷ ys) zero entry none e declared =
    let same : y ≡ entry = cc in
    let not : y.declared ≡ false = All-head (λ (s : Entry). s.declared ≡ false) y ys none in
    let both : true ≡ false = sym declared ∙ sym (ap (λ (s : Entry). s.declared) same) ∙ not in cc
declared_before [] (y ∷ ys) (suc stream) entry none e declared = let nowhere = declared_before [] ys stream entry (All-tail (λ (s : Entry). s.declared ≡ false) y ys none) e declared in cc
declared_before (x ∷ xs) ys zero entry none e declared = e
declared_before (x ∷ xs) ys (suc stream) entry none e declared = declared_before xs ys stream entry none e declared

-- a stream was declared before another one was renamed
declared_was : (streams : List Entry) (gone : ℕ) (name : List ℕ) (stream : ℕ) (entry : Entry) → slice_get (renamed streams gone name) stream ≡ Some entry → entry.declared ≡ true → (old : Entry) × (slice_get streams stream ≡ Some old) × (old.declared ≡ true)
declared_was [] gone name stream entry e declared = cc
declared_was (s ∷ streams) zero name zero entry e declared =
    (s, refl, (let same : record { name = name; schema = s.schema; declared = s.declared } ≡ entry = cc in ap (λ (x : Entry). x.declared) same ∙ declared))
declared_was (s ∷ streams) zero name (suc stream) entry e declared = (entry, e, declared)
declared_was (s ∷ streams) (suc gone) name zero entry e declared = (entry, e, declared)
declared_was (s ∷ streams) (suc gone) name (suc stream) entry e declared = declared_was streams gone name stream entry e declared

-- another name leaves the schemas
schemas_same : (streams : List Entry) (gone : ℕ) (name : List ℕ) → schemas_of (renamed streams gone name) ≡ schemas_of streams
schemas_same [] gone name = refl
schemas_same (s ∷ streams) zero name = refl
schemas_same (s ∷ streams) (suc gone) name = ap (λ ss. s.schema ∷ ss) (schemas_same streams gone name)

module _ (set : QuerySet) (first : HasDeclaredFirst set) where
  module _ (added : AddedQuery) (birth : Option ℕ) where
    abbrev more : List Entry
    more = published_by added.statement added.schema ∷ hidden_entries (length set.streams + 1) (hidden_end (newcomer set added birth) - (length set.streams + 1))

    none_declared : All (λ s. s.declared ≡ false) more
    none_declared =
        let numbers = range_with_len (length set.streams + 1) (hidden_end (newcomer set added birth) - (length set.streams + 1)) in
        All-cons (λ (s : Entry). s.declared ≡ false) (published_by added.statement added.schema) (hidden_entries (length set.streams + 1) (hidden_end (newcomer set added birth) - (length set.streams + 1))) refl
        (All-map (λ (s : Entry). s.declared ≡ false) hidden_entry numbers (every (λ number. (hidden_entry number).declared ≡ false) (λ number. refl) numbers))

    -- with a query more the declared streams are the first ones
    pub added_first : HasDeclaredFirst (with_added set added birth)
    added_first = record {
      told = λ stream entry there declared. first.told stream entry (declared_before set.streams more stream entry none_declared there declared) declared;
      within = omega (arith, first.within, length-append set.streams more);
    }

    -- and have their kinds
    pub added_kinds : (stream : ℕ) → stream < set.program.declared → kinds_in (with_added set added birth).streams stream ≡ kinds_in set.streams stream
    added_kinds stream less = sym (kinds_before set.streams more (set.streams ++ more) refl stream (omega (arith, less, first.within)))

  -- without one of the queries too
  pub without_first : (query : Query) → HasDeclaredFirst (without set query)
  without_first query = record {
    told = λ stream entry there declared. (let was = declared_was set.streams query.stream (retired_name query.stream) stream entry there declared in first.told stream was.0 was.1 was.2);
    within = (
        let many = sym (length-map (renamed set.streams query.stream (retired_name query.stream)) (λ (s : Entry). s.schema)) ∙ ap length (schemas_same set.streams query.stream (retired_name query.stream)) ∙ length-map set.streams (λ (s : Entry). s.schema) in
        omega (arith, first.within, many)
        );
  }

  pub without_kinds : (query : Query) (stream : ℕ) → kinds_in (without set query).streams stream ≡ kinds_in set.streams stream
  without_kinds query stream = ap (λ schemas. kinds_of (get_or schemas stream [])) (schemas_same set.streams query.stream (retired_name query.stream))

-- after an entry
pub entry_first : (m : Moment) (entry : CourseEntry) → HasDeclaredFirst m.set → HasDeclaredFirst (after_entry m entry).set
entry_first m (Hears event) first = first
entry_first m (Adds added) first = added_first m.set first added m.seen
entry_first m (Drops query) first = without_first m.set first query

pub entry_kinds : (m : Moment) (entry : CourseEntry) → HasDeclaredFirst m.set → (stream : ℕ) → stream < m.set.program.declared → kinds_in (after_entry m entry).set.streams stream ≡ kinds_in m.set.streams stream
entry_kinds m (Hears event) first stream less = refl
entry_kinds m (Adds added) first stream less = added_kinds m.set first added m.seen stream less
entry_kinds m (Drops query) first stream less = without_kinds m.set first query stream

pub entry_declared : (m : Moment) (entry : CourseEntry) → (after_entry m entry).set.program.declared ≡ m.set.program.declared
entry_declared m (Hears event) = refl
entry_declared m (Adds added) = refl
entry_declared m (Drops query) = refl

-- after a course, by induction on it
pub course_first : (m : Moment) (course : Course) → HasDeclaredFirst m.set → HasDeclaredFirst (after m course).set
course_first m [] first = first
course_first m (entry ∷ course) first = course_first (after_entry m entry) course (entry_first m entry first)

pub course_declared : (m : Moment) (course : Course) → (after m course).set.program.declared ≡ m.set.program.declared
course_declared m [] = refl
course_declared m (entry ∷ course) = course_declared (after_entry m entry) course ∙ entry_declared m entry

pub course_kinds : (m : Moment) (course : Course) → HasDeclaredFirst m.set → (stream : ℕ) → stream < m.set.program.declared → kinds_in (after m course).set.streams stream ≡ kinds_in m.set.streams stream
course_kinds m [] first stream less = refl
course_kinds m (entry ∷ course) first stream less =
    let then : stream < (after_entry m entry).set.program.declared = omega (arith, less, entry_declared m entry) in
    course_kinds (after_entry m entry) course (entry_first m entry first) stream then ∙ entry_kinds m entry first stream less

-- those of a catalogue that stands in order are the first ones
pub catalogue_first : (c : Catalogued) → StandsInOrder c → HasDeclaredFirst (set_in c)
catalogue_first c stands = record { told = λ stream entry there declared. (stands.told stream entry there).0 declared; within = by_many c.declared refl }
  where
    by_many : (many : ℕ) → c.declared ≡ many → many ≤ length c.streams
    by_many zero e = omega arith
    by_many (suc many) e =
        let last : many < c.declared = omega (arith, e) in
        let known = (stands.known many).0 (Contains-append_left (range_with_len 0 c.declared) (map (λ (query : Query). query.stream) (program_in c).order) many (declared_there c.declared many last)) in
        omega (arith, known.within)
