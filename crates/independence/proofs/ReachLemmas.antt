-- The names that a query reads from, as a list.
use Rattle.std.proofs.Common.{◌≡◌, ◌≢◌, ◌∙◌, ℕ, zero, suc, ◌+◌, ◌<◌, List, [], ◌∷◌, ◌++◌, true, false, cond, length, get_or, map, refl, sym, ap, subst, inl, inr, arith}
use Rattle.std.specs.Prelude.{Some, Contains, AllPairs, slice_get}
use Rattle.std.proofs.lemmas.Bool.{cases_Bool}
use Rattle.std.proofs.lemmas.List.{get_or-append-add, get_or-map, get_or_append_left, length-append, length-map}
use Rattle.std.proofs.lemmas.List.Elements.{Contains-append_cases, Contains-append_left, Contains-append_right}
use Rattle.std.proofs.lemmas.Option.{get_or_from_slice_get, slice_get_within}
use Rattle.semantics.specs.Programs.{Query}
use Rattle.stream_schema.specs.Streams.{Entry, stream_names}
use Rattle.cel_grammar.specs.Trees.{Statement}
use Rattle.cel_grammar.specs.Trees as tree
use Rattle.cel_types.specs.Aggregates.{is_among}
use Rattle.resubscribe.specs.Laws.{HasEachOnce}
use Rattle.resubscribe.proofs.OrderLemmas.{HasEachOnce-order}
use Rattle.catalogue.specs.Judgement.{Accepts, Judged}
use Rattle.catalogue.specs.Reading.{numbers_of, reads_in}
use Rattle.catalogue.specs.Statements.{is_query, name_of, names_in, queries_in, query_names, reads_by}
use Rattle.catalogue.specs.Typing.{Publish, published_by, none, next}
use Rattle.catalogue.proofs.PublishLemmas.{Publish-names}
use Rattle.catalogue.proofs.StandLemmas.{among-there, stands-from, Contains-map}
use Rattle.independence.specs.ReadsFrom.{ReadsFrom, own, through}
use Rattle.independence.proofs.PublishedLemmas.{contains-at, contains-filter, place-of, query-stands}
use Rattle.independence.proofs.TableLemmas.{get-append, number-found}
use Rattle.independence.proofs.TypingLemmas.{queries-named}

-- the names with what a statement reads, if its name is among them
abbrev with_reads : List (List ℕ) → Statement → List (List ℕ)
with_reads names s = cond (is_among names (name_of s)) (names ++ reads_by s) names

-- the names that are read from these, by the queries that are worked on here, the last ones first
reached : {queries : List Statement} {streams all : List Entry} {hidden : ℕ} {order : List ℕ} {done : List Query} → Publish queries streams hidden order all done → List (List ℕ) → List (List ℕ)
reached none names = names
reached (next {s = s} schema x there gives rest) names = with_reads (reached rest names) s

-- where its name is among them, and where it isn't
reads-there : (names : List (List ℕ)) (s : Statement) → is_among names (name_of s) ≡ true → with_reads names s ≡ names ++ reads_by s
reads-there names s e = ap (λ b. cond b (names ++ reads_by s) names) e

reads-absent : (names : List (List ℕ)) (s : Statement) → is_among names (name_of s) ≡ false → with_reads names s ≡ names
reads-absent names s e = ap (λ b. cond b (names ++ reads_by s) names) e

-- the names stay
kept-with : (names : List (List ℕ)) (s : Statement) (name : List ℕ) → Contains names name → Contains (with_reads names s) name
kept-with names s name stands = elim (cases_Bool (is_among names (name_of s))) [
  | inl there ↦ subst (λ (ns : List (List ℕ)). Contains ns name) (sym (reads-there names s there)) (Contains-append_left names (reads_by s) name stands)
  | inr absent ↦ subst (λ (ns : List (List ℕ)). Contains ns name) (sym (reads-absent names s absent)) stands
]

-- by induction on the order
kept : {queries : List Statement} {streams all : List Entry} {hidden : ℕ} {order : List ℕ} {done : List Query} (p : Publish queries streams hidden order all done) (names : List (List ℕ)) (name : List ℕ) → Contains names name → Contains (reached p names) name
unfolding reached
kept none names name stands = stands
kept (next {s = s} schema x there gives rest) names name stands = kept-with (reached rest names) s name (kept rest names name stands)

module _ (ss : List Statement) (query : List ℕ) where
  -- each is read from, by induction on the order
  sound-with : (names : List (List ℕ)) (s : Statement) → Contains ss s → ((name : List ℕ) → Contains names name → ReadsFrom ss query name) → (name : List ℕ) → Contains (with_reads names s) name → ReadsFrom ss query name
  sound-with names s stated sound name stands = elim (cases_Bool (is_among names (name_of s))) [
    | inl there ↦ elim (Contains-append_cases names (reads_by s) name (subst (λ (ns : List (List ℕ)). Contains ns name) (reads-there names s there) stands)) [
      | inl before ↦ sound name before
      | inr read ↦ through s stated (sound (name_of s) (stands-from names (name_of s) there)) read
    ]
    | inr absent ↦ sound name (subst (λ (ns : List (List ℕ)). Contains ns name) (reads-absent names s absent) stands)
  ]

  reached-sound : {streams all : List Entry} {hidden : ℕ} {order : List ℕ} {done : List Query} (p : Publish (queries_in ss) streams hidden order all done) (names : List (List ℕ)) → ((name : List ℕ) → Contains names name → ReadsFrom ss query name)
      → (name : List ℕ) → Contains (reached p names) name → ReadsFrom ss query name
  unfolding reached
  reached-sound none names sound = sound
  reached-sound (next {number = number} {s = s} schema x there gives rest) names sound =
      sound-with (reached rest names) s (query-stands ss s (contains-at (queries_in ss) number s there)) (reached-sound rest names sound)

-- no name stands in both of two lists where all names differ
not-in-both : (xs ys : List (List ℕ)) (name : List ℕ) → AllPairs (λ x y. x ≢ y) (xs ++ ys) → Contains xs name → Contains ys name → ⊥
not-in-both xs ys name apart (i, i_inside, i_same) (j, j_inside, j_same) =
    let size = length-append xs ys in
    apart i (length xs + j) name (omega arith) (omega (arith, size)) (get_or_append_left xs ys name i i_inside ∙ i_same ∙ sym (get_or-append-add xs ys j name ∙ j_same))

-- a query that is worked on later has no name of a stream that stands before
later-apart : {queries : List Statement} {streams all : List Entry} {hidden : ℕ} {order : List ℕ} {done : List Query} → Publish queries streams hidden order all done → AllPairs (λ x y. x ≢ y) (stream_names all)
    → (number : ℕ) (s : Statement) → Contains order number → slice_get queries number ≡ Some s → Contains (stream_names streams) (name_of s) → ⊥
later-apart {queries} {streams} {order = order} p apart number s stands at named =
    let inside : number < length queries = slice_get_within queries number s at in
    let name : get_or (names_in queries) number [] ≡ name_of s = get_or-map name_of queries number s [] inside ∙ ap name_of (get_or_from_slice_get queries number s s at) in
    not-in-both (stream_names streams) (map (λ n. get_or (names_in queries) n []) order) (name_of s) (subst (AllPairs (λ x y. x ≢ y)) (Publish-names p) apart) named
    (subst (Contains (map (λ n. get_or (names_in queries) n []) order)) name (Contains-map (λ n. get_or (names_in queries) n []) order number stands))

-- what the queries read whose names are reached is reached, by induction on the order
reached-closed : {queries : List Statement} {streams all : List Entry} {hidden : ℕ} {order : List ℕ} {done : List Query} (p : Publish queries streams hidden order all done) (names : List (List ℕ)) → AllPairs (λ x y. x ≢ y) (stream_names all)
    → (number : ℕ) (t : Statement) → Contains order number → slice_get queries number ≡ Some t → Contains (reached p names) (name_of t) → (name : List ℕ) → Contains (reads_by t) name → Contains (reached p names) name
unfolding reached
reached-closed none names apart number t (k, inside, same) at stands name read = absurd (omega arith)
reached-closed {queries} {streams} (next {number = first} {s = s} schema x there gives rest) names apart number t (zero, inside, same) at stands name read =
    let own : Some s ≡ Some t = sym there ∙ ap (slice_get queries) same ∙ at in
    let one : s ≡ t = cc in
    elim (cases_Bool (is_among (reached rest names) (name_of s))) [
      | inl among ↦
          subst (λ (ns : List (List ℕ)). Contains ns name) (sym (reads-there (reached rest names) s among))
          (Contains-append_right (reached rest names) (reads_by s) name (subst (λ (z : Statement). Contains (reads_by z) name) (sym one) read))
      | inr absent ↦
          let before : Contains (reached rest names) (name_of s) =
          subst (λ (z : Statement). Contains (reached rest names) (name_of z)) (sym one) (subst (λ (ns : List (List ℕ)). Contains ns (name_of t)) (reads-absent (reached rest names) s absent) stands) in
          let yes = among-there (reached rest names) (name_of s) before in absurd cc
    ]
reached-closed {queries} {streams} (next {number = first} {s = s} schema x there gives rest) names apart number t (suc k, inside, same) at stands name read =
    elim (cases_Bool (is_among (reached rest names) (name_of s))) [
      | inl among ↦ elim (Contains-append_cases (reached rest names) (reads_by s) (name_of t) (subst (λ (ns : List (List ℕ)). Contains ns (name_of t)) (reads-there (reached rest names) s among) stands)) [
        | inl before ↦ kept-with (reached rest names) s name (reached-closed rest names apart number t (k, omega arith, same) at before name read)
        | inr behind ↦
            let (n, found) = queries-named streams s schema x gives (name_of t) behind in
            let (e, e_at, named) = number-found (name_of t) streams n found in
            let old : Contains (stream_names (streams ++ published_by s schema ∷ [])) (name_of t) =
            subst (Contains (stream_names (streams ++ published_by s schema ∷ []))) named
            (Contains-map (λ (z : Entry). z.name) (streams ++ published_by s schema ∷ []) e (contains-at (streams ++ published_by s schema ∷ []) n e (get-append streams (published_by s schema ∷ []) n e e_at))) in
            absurd (later-apart rest apart number t (k, omega arith, same) at old)
      ]
      | inr absent ↦
          let before = subst (λ (ns : List (List ℕ)). Contains ns (name_of t)) (reads-absent (reached rest names) s absent) stands in
          kept-with (reached rest names) s name (reached-closed rest names apart number t (k, omega arith, same) at before name read)
    ]

-- the names that a query of an accepted text reads from
pub reads_of_query : (text : List ℕ) (judged : Judged) → Accepts text judged → List ℕ → List (List ℕ)
reads_of_query text judged h query = reached h.publishes (query ∷ [])

module _ (text : List ℕ) (judged : Judged) (h : Accepts text judged) (apart : AllPairs (λ x y. x ≢ y) (stream_names judged.streams)) (query : List ℕ) where
  -- it reads from its own name
  pub own-read : Contains (reads_of_query text judged h query) query
  unfolding reads_of_query
  own-read = kept h.publishes (query ∷ []) query (0, omega arith, refl)

  -- it reads from each of them
  pub reads-sound : (name : List ℕ) → Contains (reads_of_query text judged h query) name → ReadsFrom judged.statements query name
  unfolding reads_of_query
  reads-sound = reached-sound judged.statements query h.publishes (query ∷ []) start
    where
      start : (name : List ℕ) → Contains (query ∷ []) name → ReadsFrom judged.statements query name
      start name (zero, inside, same) = subst (ReadsFrom judged.statements query) same own
      start name (suc k, inside, same) = absurd (omega arith)

  -- what the statements of these names read is among them
  pub reads-closed : (s : Statement) (name : List ℕ) → Contains judged.statements s → Contains (reads_of_query text judged h query) (name_of s) → Contains (reads_by s) name → Contains (reads_of_query text judged h query) name
  unfolding reads_of_query
  reads-closed (tree.Stream own_name columns) name stated stands (k, inside, same) = absurd (omega arith)
  reads-closed (tree.Query items source own_name) name stated stands read =
      let s : Statement = tree.Query items source own_name in
      let (k, at) = place-of (queries_in judged.statements) (tree.Query items source own_name) (contains-filter is_query judged.statements (tree.Query items source own_name) refl stated) in
      let once : HasEachOnce (reads_in judged.statements) judged.order = HasEachOnce-order (reads_in judged.statements) judged.order h.in_order in
      let size : length (reads_in judged.statements) ≡ length (queries_in judged.statements) = length-map (queries_in judged.statements) (λ q. numbers_of (query_names judged.statements) (reads_by q)) in
      let inside : k < length (queries_in judged.statements) = slice_get_within (queries_in judged.statements) k (tree.Query items source own_name) at in
      reached-closed h.publishes (query ∷ []) apart k (tree.Query items source own_name) ((once.all k).1 (omega arith)) at stands name read
