-- The queries of an accepted text, typed over the whole table of its streams.
use Rattle.std.proofs.Common.{◌≡◌, ◌≢◌, ◌∙◌, ℕ, zero, suc, ◌+◌, ◌<◌, List, [], ◌∷◌, ◌++◌, Bool, true, false, not, length, get_or, take, refl, sym, ap, subst, inl, inr, append_assoc, arith}
use Rattle.std.specs.Prelude.{Some, None, slice_get, Contains, AllPairs}
use Rattle.std.specs.List.{All, filter}
use Rattle.std.proofs.Math.Seq.{get_or-append_seam, take-append_seam}
use Rattle.std.proofs.lemmas.List.{append-nil, get_or-map, length-append, length-map, map-append}
use Rattle.std.proofs.lemmas.List.Elements.{All-cons, All-contains, All-contains_itself, All-filter, All-nil, Contains-append_cases, Contains-append_right, Contains-get_or, filter_passes}
use Rattle.std.proofs.lemmas.List.Kept.{AllPairs-filter}
use Rattle.std.proofs.lemmas.List.Quantifiers.{all_pairs_push}
use Rattle.std.proofs.lemmas.List.Sorted.{Contains-permutation, IsPermutation-filter_both}
use Rattle.std.proofs.lemmas.Option.{get_or_from_slice_get, slice_get-get_or, slice_get_within}
use Rattle.semantics.specs.Expressions.{Ex}
use Rattle.semantics.specs.Programs.{IsUnborn, Query}
use Rattle.stream_schema.specs.Schema.{Attr}
use Rattle.stream_schema.specs.Streams.{Entry, number_of, stream_names}
use Rattle.stream_schema.proofs.NameLemmas.{absent-from_none}
use Rattle.cel_grammar.specs.Trees.{Statement}
use Rattle.cel_grammar.specs.Trees as tree
use Rattle.cel_types.specs.Statements.{Queries}
use Rattle.resubscribe.specs.Order.{IsOrder}
use Rattle.catalogue.specs.Arranging.{AreSound}
use Rattle.catalogue.specs.Reading.{reads_in}
use Rattle.catalogue.specs.Statements.{is_query, name_of, names_in, queries_in}
use Rattle.catalogue.specs.Typing.{FileDeclares, Publish, published_by, none, stream, query, next}
use Rattle.catalogue.proofs.PublishLemmas.{Publish-push}
use Rattle.catalogue.proofs.StandLemmas.{is_absent, sound_apart}
use Rattle.independence.proofs.TableLemmas.{get-end}
use Rattle.independence.proofs.TypingLemmas.{queries-append}

-- an item at a place, and the place of an item
pub contains-at : {X : Type 0} (xs : List X) (k : ℕ) (x : X) → slice_get xs k ≡ Some x → Contains xs x
contains-at xs k x at = (k, slice_get_within xs k x at, get_or_from_slice_get xs k x x at)

-- what is among items stands at a place
pub place-of : {X : Type 0} (xs : List X) (x : X) → Contains xs x → (k : ℕ) × (slice_get xs k ≡ Some x)
place-of xs x (k, inside, same) = (k, slice_get-get_or xs k x inside ∙ ap Some same)

-- an item that passes is among those that do
pub contains-filter : {X : Type 0} (p : X → Bool) (xs : List X) (x : X) → p x ≡ true → Contains xs x → Contains (filter p xs) x
contains-filter p xs x passes stands =
    elim (Contains-append_cases (filter p xs) (filter (λ y. not (p y)) xs) x (Contains-permutation xs (filter p xs ++ filter (λ y. not (p y)) xs) x (IsPermutation-filter_both p (λ y. not (p y)) (λ y. refl) xs) stands)) [
      | inl here ↦ here
      | inr there ↦ let fails : not (p x) ≡ true = All-contains (λ y. not (p y) ≡ true) (filter (λ y. not (p y)) xs) x (filter_passes (λ y. not (p y)) xs) there in let no = ap not passes in absurd cc
    ]

-- a query is a statement
pub query-stands : (ss : List Statement) (s : Statement) → Contains (queries_in ss) s → Contains ss s
query-stands ss s stands = All-contains (Contains ss) (queries_in ss) s (All-filter is_query (Contains ss) ss (All-contains_itself ss)) stands

-- the streams that queries publish stand behind the others
pub grows : {queries : List Statement} {streams all : List Entry} {hidden : ℕ} {order : List ℕ} {done : List Query} → Publish queries streams hidden order all done → (more : List Entry) × (all ≡ streams ++ more) × All (λ e. e.declared ≡ false) more
grows (none {streams = streams}) = ([], sym (append-nil streams), All-nil (λ (e : Entry). e.declared ≡ false))
grows (next {streams = streams} {s = s} schema x there gives rest) =
    let (more, same, undeclared) = grows rest in
    (published_by s schema ∷ more, same ∙ append_assoc streams (published_by s schema ∷ []) more, All-cons (λ (e : Entry). e.declared ≡ false) (published_by s schema) more refl undeclared)

-- a query of the program is that of a statement: it has its name, its type over these streams and its stream's number, and no birth
pub record IsOf (streams : List Entry) (s : Statement) (q : Query) : Type 0 where
  pub named : q.name ≡ name_of s
  pub schema : List Attr
  pub gives : Queries streams s schema q.expr
  pub entry : slice_get streams q.stream ≡ Some (published_by s schema)
  pub unborn : IsUnborn q

-- the first of those that are published next
first-is : {queries : List Statement} (streams : List Entry) {all : List Entry} (hidden : ℕ) {after : ℕ} {order : List ℕ} {more : List Query} (s : Statement) (schema : List Attr) (x : Ex) → Queries streams s schema x
    → Publish queries (streams ++ published_by s schema ∷ []) after order all more → IsOf all s (record { name = name_of s; stream = length streams; hidden = hidden; expr = x; birth = None })
first-is streams {all = all} hidden s schema x gives rest =
    let (more, same, undeclared) = grows rest in
    let parts : all ≡ streams ++ published_by s schema ∷ more = same ∙ append_assoc streams (published_by s schema ∷ []) more in
    record {
      named = refl;
      schema = schema;
      gives = subst (λ (es : List Entry). Queries es s schema x) (sym parts) (queries-append streams (published_by s schema ∷ more) s schema x gives);
      entry = ap (λ es. slice_get es (length streams)) parts ∙ get-end streams (published_by s schema) more;
      unborn = refl;
    }

-- each published query is that of a statement, by induction on the order
pub published-are : {queries : List Statement} {streams all : List Entry} {hidden : ℕ} {order : List ℕ} {done : List Query} → Publish queries streams hidden order all done → All (λ q. (s : Statement) × Contains queries s × IsOf all s q) done
published-are {queries} {all = all} none = All-nil (λ q. (s : Statement) × Contains queries s × IsOf all s q)
published-are {queries} {all = all} (next {streams = streams} {hidden = hidden} {number = number} {s = s} {more = more} schema x there gives rest) =
    All-cons (λ q. (s : Statement) × Contains queries s × IsOf all s q) (record { name = name_of s; stream = length streams; hidden = hidden; expr = x; birth = None }) more
    (s, contains-at queries number s there, first-is streams hidden s schema x gives rest) (published-are rest)

-- each statement of the order has its query, by induction on the order
pub publisher : {queries : List Statement} {streams all : List Entry} {hidden : ℕ} {order : List ℕ} {done : List Query} → Publish queries streams hidden order all done
    → (number : ℕ) (s : Statement) → Contains order number → slice_get queries number ≡ Some s → (q : Query) × Contains done q × IsOf all s q
publisher none number s (k, inside, same) at = absurd (omega arith)
publisher {queries} {all = all} (next {streams = streams} {hidden = hidden} {number = first} {s = t} {more = more} schema x there gives rest) number s (zero, inside, same) at =
    let own : Some t ≡ Some s = sym there ∙ ap (slice_get queries) same ∙ at in
    let statements : t ≡ s = cc in
    let q : Query = record { name = name_of t; stream = length streams; hidden = hidden; expr = x; birth = None } in
    (q, (0, omega arith, refl), subst (λ (z : Statement). IsOf all z q) statements (first-is streams hidden t schema x gives rest))
publisher (next {streams = streams} {hidden = hidden} {s = t} {more = more} schema x there gives rest) number s (suc k, inside, same) at =
    let (q, stands, is) = publisher rest number s (k, omega arith, same) at in
    (q, Contains-append_right (record { name = name_of t; stream = length streams; hidden = hidden; expr = x; birth = None } ∷ []) more q stands, is)

-- a name with no number stands nowhere
absent-at : (streams : List Entry) (name : List ℕ) → number_of name streams ≡ None → (k : ℕ) (d : List ℕ) → k < length (stream_names streams) → get_or (stream_names streams) k d ≢ name
absent-at streams name absent k d inside same = absent-from_none (λ (s : Entry). s.name) name streams absent (subst (Contains (stream_names streams)) same (Contains-get_or (stream_names streams) k d inside))

-- names that differ stay apart
apart-names : (ss : List Statement) → AllPairs (λ s t. name_of s ≢ name_of t) ss → AllPairs (λ x y. x ≢ y) (names_in ss)
apart-names ss apart i j d lt inside same =
    let size : length (names_in ss) ≡ length ss = length-map ss name_of in
    let e : Statement = tree.Stream [] [] in
    apart i j e lt (omega arith) (sym (get_or-map name_of ss i e d (omega arith)) ∙ same ∙ get_or-map name_of ss j e d (omega arith))

-- the declared streams are those of the declarations
declared-names : {ss : List Statement} {streams : List Entry} → FileDeclares ss streams → stream_names streams ≡ names_in (filter (λ s. not (is_query s)) ss)
declared-names none = refl
declared-names (stream {name = name} first rest) = ap (λ names. name ∷ names) (declared-names rest)
declared-names (query rest) = declared-names rest

module _ (ss : List Statement) (declared : List Entry) (order : List ℕ) (sound : AreSound ss) (in_order : IsOrder (reads_in ss) order) (declares : FileDeclares ss declared) where
  -- declared streams have names that differ
  pub declared-apart : AllPairs (λ x y. x ≢ y) (stream_names declared)
  declared-apart =
      subst (AllPairs (λ x y. x ≢ y)) (sym (declared-names declares))
      (apart-names (filter (λ s. not (is_query s)) ss) (AllPairs-filter (λ s t. name_of s ≢ name_of t) (λ s. not (is_query s)) ss (sound_apart ss sound.names)))

  -- each query that is published next has a new name
  next-absent : {hidden : ℕ} (taken later : List ℕ) (number : ℕ) (streams : List Entry) (done : List Query) (s : Statement) → order ≡ taken ++ number ∷ later → Publish (queries_in ss) declared hidden taken streams done → slice_get (queries_in ss) number ≡ Some s
      → number_of (name_of s) streams ≡ None
  next-absent {hidden} taken later number streams done s parts before there =
      let size : length (taken ++ number ∷ later) ≡ length taken + length (number ∷ later) = length-append taken (number ∷ later) in
      let inside : length taken < length order = omega (arith, ap length parts, size) in
      let front : take (length taken) order ≡ taken = ap (take (length taken)) parts ∙ take-append_seam taken (number ∷ later) in
      let here : get_or order (length taken) 0 ≡ number = ap (λ ns. get_or ns (length taken) 0) parts ∙ get_or-append_seam taken number later 0 in
      let (place, at) = place-of ss s (query-stands ss s (contains-at (queries_in ss) number s there)) in
      is_absent ss declared order streams done sound in_order declares (length taken) inside (subst (λ (ns : List ℕ). Publish (queries_in ss) declared hidden ns streams done) (sym front) before) place s at
      (ap (slice_get (queries_in ss)) here ∙ there)

  -- so names stay apart, by induction on the order
  pub apart-from : {hidden after : ℕ} (taken later : List ℕ) {streams all : List Entry} {done more : List Query} → order ≡ taken ++ later → Publish (queries_in ss) declared hidden taken streams done → AllPairs (λ x y. x ≢ y) (stream_names streams)
      → Publish (queries_in ss) streams after later all more → AllPairs (λ x y. x ≢ y) (stream_names all)
  apart-from taken later parts before apart none = apart
  apart-from taken later {done = done} parts before apart (next {streams = streams} {number = number} {order = rest_order} {s = s} schema x there gives rest) =
      let new = absent-at streams (name_of s) (next-absent taken rest_order number streams done s parts before there) in
      let names : stream_names (streams ++ published_by s schema ∷ []) ≡ stream_names streams ++ name_of s ∷ [] = map-append (λ (e : Entry). e.name) streams (published_by s schema ∷ []) in
      apart-from (taken ++ number ∷ []) rest_order (parts ∙ sym (append_assoc taken (number ∷ []) rest_order)) (Publish-push before number s schema x there gives)
      (subst (AllPairs (λ x y. x ≢ y)) (sym names) (all_pairs_push (λ x y. x ≢ y) (stream_names streams) (name_of s) apart new)) rest
