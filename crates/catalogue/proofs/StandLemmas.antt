-- The streams that stand when a query is worked on: those that it reads do, and its own doesn't.
use Rattle.std.proofs.Common.{◌≡◌, ◌≢◌, ◌∙◌, ℕ, zero, suc, ◌<◌, List, [], ◌∷◌, ◌++◌, true, false, ◌||◌, length, map, take, get_or, refl, sym, ap, subst, inl, inr, arith, length-take-le}
use Rattle.std.specs.Prelude.{Option, Some, None, slice_get, Contains, AllPairs, position, is_some}
use Rattle.std.specs.List.{All, cons_option}
use Rattle.std.specs.Str.{bytes_eq}
use Rattle.std.proofs.Math.Bool.{or-true}
use Rattle.std.proofs.lemmas.Bool.{cases_Bool, cases_lt}
use Rattle.std.proofs.lemmas.List.{get_or-map, get_or-take, length-map}
use Rattle.std.proofs.lemmas.List.Elements.{All-contains, All-cons, All-nil, Contains-append_cases, Contains-append_left, Contains-append_right, Contains-get_or, filter_passes}
use Rattle.std.proofs.lemmas.List.Kept.{AllPairs-filter}
use Rattle.std.proofs.lemmas.List.Quantifiers.{position-Some}
use Rattle.std.proofs.lemmas.Map.Views.{Contains-from_any}
use Rattle.std.proofs.lemmas.Option.{get_or_from_slice_get, slice_get-get_or}
use Rattle.std.proofs.lemmas.Slice.Eq.{bytes_eq-Decides}
use Rattle.stream_schema.specs.Streams.{Entry, number_of, stream_names}
use Rattle.stream_schema.proofs.PlaceLemmas.{is_some-position}
use Rattle.cel_grammar.specs.Trees.{Statement}
use Rattle.cel_grammar.specs.Trees as tree
use Rattle.cel_types.specs.Aggregates.{is_among}
use Rattle.resubscribe.specs.Laws.{HasEachOnce}
use Rattle.resubscribe.specs.Order.{IsOrder, reads_of}
use Rattle.resubscribe.proofs.OrderLemmas.{HasEachOnce-order, StandsAfterReads-order}
use Rattle.semantics.specs.Programs.{Query}
use Rattle.catalogue.specs.declared.fault.QueryFault.TheVariants.{Unknown}
use Rattle.catalogue.specs.Arranging.{AreSound}
use Rattle.catalogue.specs.First.{HaveNone}
use Rattle.catalogue.specs.Naming.{name_fault_at, read_fault}
use Rattle.catalogue.specs.Reading.{numbers_of, reads_in}
use Rattle.catalogue.specs.Statements.{is_query, name_of, names_in, queries_in, query_names, reads_by}
use Rattle.catalogue.specs.Typing.{FileDeclares, Publish, none, stream, query}
use Rattle.catalogue.proofs.DeclareLemmas.{new_at}
use Rattle.catalogue.proofs.NameLemmas.{number_of-absent}
use Rattle.catalogue.proofs.PlaceLemmas.{read_fault-at, slice_get-within}
use Rattle.catalogue.proofs.PublishLemmas.{Publish-names}
use Rattle.catalogue.proofs.ReadingLemmas.{read_fault-cons, fault_by}

-- a name that stands among others is found there
pub among-there : (xs : List (List ℕ)) (name : List ℕ) → Contains xs name → is_among xs name ≡ true
among-there [] name stands = absurd (omega arith)
among-there (x ∷ xs) name (zero, within, same) = ap (λ b. b || is_among xs name) ((bytes_eq-Decides name x).1 (sym same))
among-there (x ∷ xs) name (suc k, within, same) = ap (λ b. bytes_eq name x || b) (among-there xs name (k, omega arith, same)) ∙ or-true (bytes_eq name x)

-- a name that is found among others stands there
pub stands-from : (xs : List (List ℕ)) (name : List ℕ) → is_among xs name ≡ true → Contains xs name
stands-from xs name e = Contains-from_any {eq = bytes_eq} (λ a b same. (bytes_eq-Decides a b).0 same) name xs e

-- the image of an item is among the images
pub Contains-map : {X Y : Type 0} (f : X → Y) (xs : List X) (x : X) → Contains xs x → Contains (map f xs) (f x)
Contains-map f xs x (k, within, same) = (k, rw (length-map xs f) within, get_or-map f xs k x (f x) within ∙ ap f same)

-- a declared stream comes from a declaration
record DeclaredAt (ss : List Statement) (name : List ℕ) : Type 0 where
  pub place : ℕ
  pub s : Statement
  pub there : slice_get ss place ≡ Some s
  pub is : is_query s ≡ false
  pub named : name_of s ≡ name

behind_it : {ss : List Statement} {name : List ℕ} (t : Statement) → DeclaredAt ss name → DeclaredAt (t ∷ ss) name
behind_it t h = record { place = suc h.place; s = h.s; there = h.there; is = h.is; named = h.named }

declared_from : {ss : List Statement} {streams : List Entry} → FileDeclares ss streams → (name : List ℕ) → Contains (stream_names streams) name → DeclaredAt ss name
declared_from none name (k, within, same) = absurd (omega arith)
declared_from (stream {name = own} {columns = columns} first rest) name (zero, within, same) = record { place = 0; s = tree.Stream own columns; there = refl; is = refl; named = same }
declared_from (stream {name = own} {columns = columns} first rest) name (suc k, within, same) = behind_it (tree.Stream own columns) (declared_from rest name (k, omega arith, same))
declared_from (query {items = items} {source = source} {name = own} rest) name stands = behind_it (tree.Query items source own) (declared_from rest name stands)

-- the stream of a declaration stands
declared_stands : {ss : List Statement} {streams : List Entry} → FileDeclares ss streams → (place : ℕ) (s : Statement) → slice_get ss place ≡ Some s → is_query s ≡ false → Contains (stream_names streams) (name_of s)
declared_stands none place s there is = cc
declared_stands (stream {name = own} {columns = columns} {streams = streams} first rest) zero s there is =
    let same : tree.Stream own columns ≡ s = cc in subst (λ (z : Statement). Contains (own ∷ stream_names streams) (name_of z)) same (0, omega arith, refl)
declared_stands (stream {name = own} {streams = streams} first rest) (suc place) s there is = Contains-append_right (own ∷ []) (stream_names streams) (name_of s) (declared_stands rest place s there is)
declared_stands (query {items = items} {source = source} {name = own} rest) zero s there is = let same : tree.Query items source own ≡ s = cc in let e : true ≡ false = ap is_query same ∙ is in absurd cc
declared_stands (query rest) (suc place) s there is = declared_stands rest place s there is

-- the name of a query is among those of queries
query_stands : (ss : List Statement) (place : ℕ) (s : Statement) → slice_get ss place ≡ Some s → is_query s ≡ true → Contains (query_names ss) (name_of s)
query_stands [] place s there is = cc
query_stands (tree.Stream own columns ∷ ss) zero s there is = let same : tree.Stream own columns ≡ s = cc in let e : false ≡ true = ap is_query same ∙ is in absurd cc
query_stands (tree.Stream own columns ∷ ss) (suc place) s there is = query_stands ss place s there is
query_stands (tree.Query items source own ∷ ss) zero s there is =
    let same : tree.Query items source own ≡ s = cc in subst (λ (z : Statement). Contains (own ∷ query_names ss) (name_of z)) same (0, omega arith, refl)
query_stands (tree.Query items source own ∷ ss) (suc place) s there is = Contains-append_right (own ∷ []) (query_names ss) (name_of s) (query_stands ss place s there is)

-- sound names differ
pub sound_apart : (ss : List Statement) → HaveNone (name_fault_at ss) (length ss) → AllPairs (λ s t. name_of s ≢ name_of t) ss
sound_apart ss none_at i j d lt within same =
    let there : slice_get ss j ≡ Some (get_or ss j d) = slice_get-get_or ss j d within in
    let new : is_among (names_in (take j ss)) (name_of (get_or ss j d)) ≡ false = new_at ss j (get_or ss j d) there (none_at j within) in
    let long : length (take j ss) ≡ j = length-take-le j ss (omega arith) in
    let inside : i < length (take j ss) = omega arith in
    let stands : Contains (names_in (take j ss)) (name_of (get_or (take j ss) i d)) = Contains-map name_of (take j ss) (get_or (take j ss) i d) (Contains-get_or (take j ss) i d inside) in
    let old : is_among (names_in (take j ss)) (name_of (get_or ss j d)) ≡ true =
    among-there (names_in (take j ss)) (name_of (get_or ss j d)) (subst (Contains (names_in (take j ss))) (ap name_of (get_or-take j ss i d lt) ∙ same) stands) in
    cc

-- the names at two places differ
apart_at : (ss : List Statement) → AllPairs (λ s t. name_of s ≢ name_of t) ss → (i j : ℕ) (s t : Statement) → slice_get ss i ≡ Some s → slice_get ss j ≡ Some t → i ≢ j → name_of s ≢ name_of t
apart_at ss apart i j s t at_i at_j other same =
    let in_i : i < length ss = slice_get-within ss i s at_i in
    let in_j : j < length ss = slice_get-within ss j t at_j in
    let is_s : get_or ss i s ≡ s = get_or_from_slice_get ss i s s at_i in
    let is_t : get_or ss j s ≡ t = get_or_from_slice_get ss j t s at_j in
    elim (cases_lt i j) [
      | inl before ↦ apart i j s before in_j (ap name_of is_s ∙ same ∙ sym (ap name_of is_t))
      | inr past ↦ elim (cases_lt j i) [
        | inl after ↦ apart j i s after in_i (ap name_of is_t ∙ sym same ∙ sym (ap name_of is_s))
        | inr equal ↦ other (omega arith)
      ]
    ]

-- names that are read without a fault are among those of the file
reads_among : (names xs : List (List ℕ)) → read_fault names xs ≡ None → All (λ x. is_among names x ≡ true) xs
reads_among names [] e = All-nil (λ x. is_among names x ≡ true)
reads_among names (x ∷ xs) e = elim (cases_Bool (is_among names x)) [
  | inl there ↦ All-cons (λ y. is_among names y ≡ true) x xs there (reads_among names xs (sym (read_fault-cons names x xs ∙ ap (λ b. fault_by b x (read_fault names xs)) there) ∙ e))
  | inr absent ↦ let f : Some (Unknown x) ≡ None = sym (read_fault-cons names x xs ∙ ap (λ b. fault_by b x (read_fault names xs)) absent) ∙ e in absurd cc
]

cons_kept : (o : Option ℕ) (xs : List ℕ) (j : ℕ) → Contains xs j → Contains (cons_option o xs) j
cons_kept None xs j stands = stands
cons_kept (Some i) xs j stands = Contains-append_right (i ∷ []) xs j stands

cons_first : (o : Option ℕ) (xs : List ℕ) (j : ℕ) → o ≡ Some j → Contains (cons_option o xs) j
cons_first None xs j e = cc
cons_first (Some i) xs j e = let same : i ≡ j = cc in (0, omega arith, same)

-- the number of a query that is read is among the numbers
number_stands : (queries names : List (List ℕ)) (name : List ℕ) (j : ℕ) → position (bytes_eq name) queries ≡ Some j → Contains names name → Contains (numbers_of queries names) j
number_stands queries [] name j at stands = absurd (omega arith)
number_stands queries (x ∷ names) name j at (zero, within, same) = cons_first (position (bytes_eq x) queries) (numbers_of queries names) j (ap (λ y. position (bytes_eq y) queries) same ∙ at)
number_stands queries (x ∷ names) name j at (suc k, within, same) = cons_kept (position (bytes_eq x) queries) (numbers_of queries names) j (number_stands queries names name j at (k, omega arith, same))

some_at : (o : Option ℕ) → is_some o ≡ true → (j : ℕ) × (o ≡ Some j)
some_at None e = cc
some_at (Some j) e = (j, refl)

-- the statement at the number of a query is a query
pub query_at_number : (ss : List Statement) (number : ℕ) (s : Statement) → slice_get (queries_in ss) number ≡ Some s → is_query s ≡ true
query_at_number ss number s at =
    let within : number < length (queries_in ss) = slice_get-within (queries_in ss) number s at in
    ap is_query (sym (get_or_from_slice_get (queries_in ss) number s s at)) ∙ filter_passes is_query ss number s within

module _ (ss : List Statement) (streams : List Entry) (order : List ℕ) (all : List Entry) (done : List Query) (sound : AreSound ss) (in_order : IsOrder (reads_in ss) order) (declared : FileDeclares ss streams) (index : ℕ) (within : index < length order) {hidden : ℕ} (published : Publish (queries_in ss) streams hidden (take index order) all done) (place : ℕ) (s : Statement) (there : slice_get ss place ≡ Some s) (at_number : slice_get (queries_in ss) (get_or order index 0) ≡ Some s) where
  names_are : stream_names all ≡ stream_names streams ++ map (λ n. get_or (query_names ss) n []) (take index order)
  names_are = Publish-names published

  is : is_query s ≡ true
  is = query_at_number ss (get_or order index 0) s at_number

  apart : AllPairs (λ t u. name_of t ≢ name_of u) ss
  apart = sound_apart ss sound.names

  long : length (take index order) ≡ index
  long = length-take-le index order (omega arith)

  -- its name is no declared stream's
  not_declared : Contains (stream_names streams) (name_of s) → ⊥
  not_declared stands =
      let from : DeclaredAt ss (name_of s) = declared_from declared (name_of s) stands in
      let elsewhere : from.place ≢ place = λ same. (let e : Some from.s ≡ Some s = sym from.there ∙ ap (slice_get ss) same ∙ there in let f : is_query from.s ≡ true = ap is_query (let g : from.s ≡ s = cc in g) ∙ is in let h : is_query from.s ≡ false = from.is in cc) in
      apart_at ss apart from.place place from.s s from.there there elsewhere from.named

  -- nor that of an earlier query
  not_published : Contains (map (λ n. get_or (query_names ss) n []) (take index order)) (name_of s) → ⊥
  not_published (k, inside, same) =
      let lengths : length (map (λ n. get_or (query_names ss) n []) (take index order)) ≡ index = length-map (take index order) (λ n. get_or (query_names ss) n []) ∙ long in
      let before : k < index = omega arith in
      let earlier : ℕ = get_or order k 0 in
      let once : HasEachOnce (reads_in ss) order = HasEachOnce-order (reads_in ss) order in_order in
      let other : get_or order k 0 ≢ get_or order index 0 = once.distinct k index 0 before within in
      let lengths_reads : length (reads_in ss) ≡ length (queries_in ss) = length-map (queries_in ss) (λ query. numbers_of (query_names ss) (reads_by query)) in
      let small : get_or order k 0 < length (reads_in ss) = (once.all (get_or order k 0)).0 (Contains-get_or order k 0 (omega arith)) in
      let at_earlier : slice_get (queries_in ss) (get_or order k 0) ≡ Some (get_or (queries_in ss) (get_or order k 0) s) = slice_get-get_or (queries_in ss) (get_or order k 0) s (omega arith) in
      let inside_take : k < length (take index order) = omega (arith, long) in
      let name_there : name_of (get_or (queries_in ss) (get_or order k 0) s) ≡ name_of s =
      sym (get_or-map name_of (queries_in ss) (get_or order k 0) s [] (omega arith)) ∙ ap (λ n. get_or (query_names ss) n []) (sym (get_or-take index order k 0 before))
      ∙ sym (get_or-map (λ n. get_or (query_names ss) n []) (take index order) k 0 (name_of s) inside_take) ∙ same in
      apart_at (queries_in ss) (AllPairs-filter (λ t u. name_of t ≢ name_of u) is_query ss apart) (get_or order k 0) (get_or order index 0) (get_or (queries_in ss) (get_or order k 0) s) s at_earlier at_number other name_there

  -- its name is new
  pub is_absent : number_of (name_of s) all ≡ None
  is_absent = elim (cases_Bool (is_among (stream_names all) (name_of s))) [
    | inl taken ↦
        let stands : Contains (stream_names streams ++ map (λ n. get_or (query_names ss) n []) (take index order)) (name_of s) = subst (λ (xs : List (List ℕ)). Contains xs (name_of s)) names_are (stands-from (stream_names all) (name_of s) taken) in
        elim (Contains-append_cases (stream_names streams) (map (λ n. get_or (query_names ss) n []) (take index order)) (name_of s) stands) [
          | inl old ↦ absurd (not_declared old)
          | inr new ↦ absurd (not_published new)
        ]
    | inr free ↦ number_of-absent (name_of s) all (stream_names all) refl free
  ]

  reads_number : reads_of (reads_in ss) (get_or order index 0) ≡ numbers_of (query_names ss) (reads_by s)
  reads_number =
      let inside : get_or order index 0 < length (queries_in ss) = slice_get-within (queries_in ss) (get_or order index 0) s at_number in
      get_or-map (λ query. numbers_of (query_names ss) (reads_by query)) (queries_in ss) (get_or order index 0) s [] inside
      ∙ ap (λ query. numbers_of (query_names ss) (reads_by query)) (get_or_from_slice_get (queries_in ss) (get_or order index 0) s s at_number)

  -- a query that it reads was published
  query_read : (name : List ℕ) → Contains (reads_by s) name → Contains (query_names ss) name → Contains (map (λ n. get_or (query_names ss) n []) (take index order)) name
  query_read name read queried =
      let found : (j : ℕ) × (position (bytes_eq name) (query_names ss) ≡ Some j) = some_at (position (bytes_eq name) (query_names ss)) (is_some-position (bytes_eq name) (query_names ss) ∙ among-there (query_names ss) name queried) in
      let numbered : Contains (reads_of (reads_in ss) (get_or order index 0)) found.0 = subst (λ (xs : List ℕ). Contains xs found.0) (sym reads_number) (number_stands (query_names ss) (reads_by s) name found.0 found.1 read) in
      let earlier : Contains (take index order) found.0 = All-contains (Contains (take index order)) (reads_of (reads_in ss) (get_or order index 0)) found.0 (StandsAfterReads-order (reads_in ss) order in_order index within) numbered in
      let own : bytes_eq name (get_or (query_names ss) found.0 []) ≡ true = (position-Some (bytes_eq name) (query_names ss) found.0 [] found.1).1 in
      subst (Contains (map (λ n. get_or (query_names ss) n []) (take index order))) (sym ((bytes_eq-Decides name (get_or (query_names ss) found.0 [])).0 own))
      (Contains-map (λ n. get_or (query_names ss) n []) (take index order) found.0 earlier)

  -- each name that it reads is that of a stream
  pub reads_stand : All (Contains (stream_names all)) (reads_by s)
  reads_stand k d inside =
      let name : List ℕ = get_or (reads_by s) k d in
      let no_fault : read_fault (names_in ss) (reads_by s) ≡ None = sym (read_fault-at ss place s there (names_in ss) (read_fault (names_in ss) (reads_by s)) refl refl) ∙ sound.reads place (slice_get-within ss place s there) in
      let among : is_among (names_in ss) (get_or (reads_by s) k d) ≡ true = reads_among (names_in ss) (reads_by s) no_fault k d inside in
      let (p, p_inside, p_same) = stands-from (names_in ss) (get_or (reads_by s) k d) among in
      let p_short : p < length ss = subst (λ (n : ℕ). p < n) (length-map ss name_of) p_inside in
      let at_p : slice_get ss p ≡ Some (get_or ss p s) = slice_get-get_or ss p s p_short in
      let named : name_of (get_or ss p s) ≡ get_or (reads_by s) k d = sym (get_or-map name_of ss p s (get_or (reads_by s) k d) p_short) ∙ p_same in
      let read : Contains (reads_by s) (get_or (reads_by s) k d) = Contains-get_or (reads_by s) k d inside in
      subst (λ (xs : List (List ℕ)). Contains xs (get_or (reads_by s) k d)) (sym names_are)
      (elim (cases_Bool (is_query (get_or ss p s))) [
        | inl queried ↦
            Contains-append_right (stream_names streams) (map (λ n. get_or (query_names ss) n []) (take index order)) (get_or (reads_by s) k d)
            (query_read (get_or (reads_by s) k d) read (subst (Contains (query_names ss)) named (query_stands ss p (get_or ss p s) at_p queried)))
        | inr declares ↦
            Contains-append_left (stream_names streams) (map (λ n. get_or (query_names ss) n []) (take index order)) (get_or (reads_by s) k d) (subst (Contains (stream_names streams)) named (declared_stands declared p (get_or ss p s) at_p declares))
      ])
