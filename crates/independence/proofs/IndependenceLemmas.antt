-- The same results, and so the same lines, in two texts.
use Rattle.std.proofs.Common.{◌≡◌, ◌∙◌, ℕ, List, [], Bool, length, get_or, refl, sym, ap, subst}
use Rattle.std.specs.Prelude.{Some, Contains, IsTrue, slice_get}
use Rattle.std.specs.List.{All, flat_map}
use Rattle.std.specs.Option.{option_map_or}
use Rattle.std.proofs.lemmas.List.Elements.{All-contains, Contains-get_or}
use Rattle.std.proofs.lemmas.List.Sorted.{All-permutation, Contains-permutation, IsPermutation-sym}
use Rattle.std.proofs.lemmas.Option.{slice_get-get_or}
use Rattle.event_types.specs.declared.kind.Kind.{Kind}
use Rattle.semantics.specs.Histories.{Event, heard_on}
use Rattle.semantics.specs.Programs.{Query}
use Rattle.semantics.specs.Report.{line}
use Rattle.semantics.specs.Results.{results}
use Rattle.semantics.specs.Statements.{HearTheSame as HearTheSameByNumber}
use Rattle.semantics.specs.TypedPrograms.{IsProgram}
use Rattle.semantics.proofs.StatementLemmas.{same_results}
use Rattle.stream_schema.specs.Streams.{Entry, number_of}
use Rattle.cel_grammar.specs.Trees.{Statement}
use Rattle.cel_types.specs.Aggregates.{is_among}
use Rattle.catalogue.specs.Judgement.{Accepts, Judged, program_of}
use Rattle.catalogue.specs.Statements.{name_of, queries_in, reads_by}
use Rattle.catalogue.proofs.StandLemmas.{among-there, stands-from}
use Rattle.independence.specs.Hearing.{HearTheSame, heard_by_name}
use Rattle.independence.specs.Independence.{HasTwin}
use Rattle.independence.specs.ReadsFrom.{ReadsFrom, ReadsTheSame}
use Rattle.independence.proofs.AcceptedLemmas.{Stands, accepted-stands, declared-at, entry_of}
use Rattle.independence.proofs.PublishedLemmas.{IsOf, contains-at}
use Rattle.independence.proofs.ReachLemmas.{own-read, reads-closed, reads-sound, reads_of_query}
use Rattle.independence.proofs.SharedLemmas.{declared-there, have-same, name_at, named-at, number_in, queries-followed}
use Rattle.independence.proofs.TableLemmas.{number-at}

module _ (text other : List ℕ) (a b : Judged) (accepts : Accepts text a) (accepts_too : Accepts other b) (kinds other_kinds : ℕ → List Kind) (typed : IsProgram kinds (program_of a)) (typed_too : IsProgram other_kinds (program_of b)) (query : List ℕ) (stands : ReadsTheSame a.statements b.statements query) where
  -- what both tables have
  s : Stands a
  s = accepted-stands text a accepts

  t : Stands b
  t = accepted-stands other b accepts_too

  -- the names that the query reads from
  test : List ℕ → Bool
  test name = is_among (reads_of_query text a accepts query) name

  from : (name : List ℕ) → IsTrue (test name) → Contains (reads_of_query text a accepts query) name
  unfolding test
  from name e = stands-from (reads_of_query text a accepts query) name e

  into : (name : List ℕ) → Contains (reads_of_query text a accepts query) name → IsTrue (test name)
  unfolding test
  into name there = among-there (reads_of_query text a accepts query) name there

  -- their statements stand in the other text, and what these read is among the names
  shared : (u : Statement) → Contains a.statements u → IsTrue (test (name_of u)) → Contains b.statements u
  shared u stated shares = stands u stated (reads-sound text a accepts s.apart query (name_of u) (from (name_of u) shares))

  closed : (u : Statement) (name : List ℕ) → Contains a.statements u → IsTrue (test (name_of u)) → Contains (reads_by u) name → IsTrue (test name)
  closed u name stated shares read = into name (reads-closed text a accepts s.apart query u name stated (from (name_of u) shares) read)

  module _ (history others : List Event) (hear : HearTheSame a b history others query) where
    -- the shared declared streams heard the same under their numbers
    hear-by_number : HearTheSameByNumber (λ n. test (name_at a.streams n)) (number_in a.streams b.streams) (length a.declared) history others
    hear-by_number n shares lt =
        let at : slice_get a.declared n ≡ Some (get_or a.declared n (entry_of [] [])) = slice_get-get_or a.declared n (entry_of [] []) lt in
        heard-at n (get_or a.declared n (entry_of [] [])) at shares
      where
        heard-at : (n : ℕ) (e : Entry) → slice_get a.declared n ≡ Some e → IsTrue (test (name_at a.streams n)) → heard_on history n ≡ heard_on others (number_in a.streams b.streams n)
        heard-at n e at shares =
            let all : slice_get a.streams n ≡ Some e = declared-at a s n e at in
            let own : IsTrue (test e.name) = subst (λ (y : List ℕ). IsTrue (test y)) (named-at a.streams n e all) shares in
            let read : ReadsFrom a.statements query e.name = reads-sound text a accepts s.apart query e.name (from e.name own) in
            let same : heard_by_name a.streams history e.name ≡ heard_by_name b.streams others e.name =
            All-contains (λ (z : Entry). ReadsFrom a.statements query z.name → heard_by_name a.streams history z.name ≡ heard_by_name b.streams others z.name) a.declared e hear (contains-at a.declared n e at) read in
            let (m, inside, there, numbers) = declared-there a b s t test shared closed n e at own in
            let found : number_of e.name b.streams ≡ Some m = number-at b.streams t.apart m (entry_of e.name e.schema) there in
            ap (λ o. option_map_or (heard_on history) o []) (sym (number-at a.streams s.apart n e all)) ∙ same ∙ ap (λ o. option_map_or (heard_on others) o []) found ∙ ap (heard_on others) (sym numbers)

    -- equal results under one name are equal lines
    same-lines : (name twin_name : List ℕ) (n m : ℕ) (time : ℕ) → twin_name ≡ name → results (program_of b) others m time ≡ results (program_of a) history n time
        → flat_map (line twin_name) (results (program_of b) others m time) ≡ flat_map (line name) (results (program_of a) history n time)
    same-lines name twin_name n m time named same = λ i. flat_map (line (named i)) (same i)

    -- the query has its twin
    pub has-twin : (q : Query) → Contains a.published q → q.name ≡ query → HasTwin (program_of a) (program_of b) history others q
    has-twin q published named =
        let known = All-contains (λ q. (u : Statement) × Contains (queries_in a.statements) u × IsOf a.streams u q) a.published q s.queries published in
        twin-of known.0 known.1 known.2
      where
        own : IsTrue (test q.name)
        own = subst (λ (y : List ℕ). IsTrue (test y)) (sym named) (into query (own-read text a accepts s.apart query))

        twin-of : (u : Statement) → Contains (queries_in a.statements) u → IsOf a.streams u q → HasTwin (program_of a) (program_of b) history others q
        twin-of u stated is =
            let followed = queries-followed a b s t test shared closed accepts.publishes q u stated is own in
            let file = (λ (p : Query) (there : Contains a.published p). Contains-permutation a.published (program_of a).queries p (IsPermutation-sym (program_of a).queries a.published typed.same_queries) there) in
            let named_at : name_at a.streams q.stream ≡ q.name = named-at a.streams q.stream _ is.entry ∙ sym is.named in
            let all = same_results (λ n. test (name_at a.streams n)) (number_in a.streams b.streams) kinds other_kinds (program_of a) (program_of b) history others typed typed_too (have-same a b s t test shared closed accepts.publishes kinds other_kinds typed typed_too) hear-by_number in
            let same = All-contains (λ p. IsTrue (test (name_at a.streams p.stream)) → (time : ℕ) → results (program_of a) history p.stream time ≡ results (program_of b) others (number_in a.streams b.streams p.stream) time) (program_of a).queries q all (file q published) (subst (λ (y : List ℕ). IsTrue (test y)) (sym named_at) own) in
            let results_are = λ (time : ℕ). ap (λ n. results (program_of b) others n time) (sym followed.stream) ∙ sym (same time) in
            let names_are : followed.twin.name ≡ q.name = followed.named ∙ sym is.named in
            record {
              twin = followed.twin;
              stands = Contains-permutation b.published (program_of b).queries followed.twin (IsPermutation-sym (program_of b).queries b.published typed_too.same_queries) followed.stands;
              same_name = names_are;
              same_results = results_are;
              same_lines = λ time. same-lines q.name followed.twin.name q.stream followed.twin.stream time names_are (results_are time);
            }

-- results depend on what is read alone
pub reads_alone : (text other : List ℕ) (a b : Judged) (history others : List Event) → Accepts text a → Accepts other b → (kinds other_kinds : ℕ → List Kind) → IsProgram kinds (program_of a) → IsProgram other_kinds (program_of b)
    → All (λ query. ReadsTheSame a.statements b.statements query.name → HearTheSame a b history others query.name → HasTwin (program_of a) (program_of b) history others query) (program_of a).queries
reads_alone text other a b history others accepts accepts_too kinds other_kinds typed typed_too =
    All-permutation (λ query. ReadsTheSame a.statements b.statements query.name → HearTheSame a b history others query.name → HasTwin (program_of a) (program_of b) history others query) a.published (program_of a).queries
    (IsPermutation-sym (program_of a).queries a.published typed.same_queries)
    (λ k d inside stands hear. has-twin text other a b accepts accepts_too kinds other_kinds typed typed_too (get_or a.published k d).name stands history others hear (get_or a.published k d) (Contains-get_or a.published k d inside) refl)
