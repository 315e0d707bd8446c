-- Streams that are published one after the other.
use Rattle.std.proofs.Common.{◌≡◌, ◌∙◌, sym, ap, refl, subst, ℕ, zero, suc, ◌+◌, ◌<◌, ◌≤◌, length, get_or, take, drop, add-one, List, [], ◌∷◌, ◌++◌, map, arith}
use Rattle.std.specs.Prelude.{None, Some, slice_get}
use Rattle.std.specs.List.{All, cons_option}
use Rattle.std.specs.List.Sorted.{IsPermutation}
use Rattle.std.proofs.Math.Seq.{drop-cons, take-length}
use Rattle.std.proofs.lemmas.List.{length-append, length-take, take-append-le}
use Rattle.std.proofs.lemmas.List.Elements.{All-nil, All-cons, All-get_or, All-head, All-tail, All-weaker}
use Rattle.std.proofs.lemmas.List.Sorted.{All-permutation, IsPermutation-sym}
use Rattle.event_types.specs.Tuple.{TupleView}
use Rattle.semantics.proofs.BirthLemmas.{streams_after-none}
use Rattle.semantics.specs.Births.{streams_after}
use Rattle.semantics.specs.Denotation.{Streams, denote, streams_of}
use Rattle.semantics.specs.Programs.{Query as Term, published, with_stream}
use Rattle.algebra.specs.Suits.{Suits}
use Rattle.algebra.specs.SuitedQueries.{SuitInTurn}
use Rattle.reference.specs.declared.query.Query.{Query}
use Rattle.reference.specs.Views.{PublishNext, placed, query_of}
use Rattle.reference.proofs.StreamLemmas.{streams_of-push}

-- the query at a place, as a term
get_placed : (queries : List Query) (place : ℕ) (query : Query) → place < length queries → query ≡ get_or queries place query → slice_get (map query_of queries) place ≡ Some (query_of query)
get_placed [] place query lt is = absurd (omega arith)
get_placed (q ∷ queries) zero query lt is = ap (λ x. Some (query_of x)) (sym is)
get_placed (q ∷ queries) (suc place) query lt is = get_placed queries place query (omega arith) is

-- the queries at the places from one on
placed-cons : (queries : List Query) (place : ℕ) (places : List ℕ) (query : Query) → place < length queries → query ≡ get_or queries place query → placed queries (place ∷ places) ≡ query_of query ∷ placed queries places
placed-cons queries place places query lt is = ap (λ found. cons_option found (placed queries places)) (get_placed queries place query lt is)

-- what is left to publish behind the lists that there are, where all was to be published behind the first of them
abbrev pub IsLeft : List Query → List (List TupleView) → List ℕ → List (List TupleView) → List ℕ → Type 0
IsLeft queries first order lists places =
    PublishNext (length lists) (placed queries places)
    × SuitInTurn (streams_of lists) (placed queries places)
    × (published (streams_of lists) (placed queries places) ≡ published (streams_of first) (placed queries order))
    × (length lists + length (placed queries places) ≡ length first + length (placed queries order))
    × (take (length first) lists ≡ first)

-- at first all is left
pub all_left : (queries : List Query) (first : List (List TupleView)) (order : List ℕ) → PublishNext (length first) (placed queries order) → SuitInTurn (streams_of first) (placed queries order) → IsLeft queries first order first order
all_left queries first order next suited = (next, suited, refl, refl, take-length first)

-- the next query may be evaluated
next_suits : (queries : List Query) (first : List (List TupleView)) (order : List ℕ) (lists : List (List TupleView)) (place : ℕ) (places : List ℕ) (query : Query)
    → place < length queries → query ≡ get_or queries place query → IsLeft queries first order lists (place ∷ places) → Suits (query_of query).expr (length lists) (streams_of lists)
next_suits queries first order lists place places query lt is left =
    let cons = placed-cons queries place places query lt is in
    let next = subst (PublishNext (length lists)) cons left.0 in
    let suited = subst (SuitInTurn (streams_of lists)) cons left.1 in
    subst (λ (s : ℕ × Streams). Suits (query_of query).expr s.0 s.1) (λ i. (next.0 i, streams_after-none (streams_of lists) i)) suited.0

-- and once it is published, the rest is left
left_after : (queries : List Query) (first : List (List TupleView)) (order : List ℕ) (lists : List (List TupleView)) (place : ℕ) (places : List ℕ) (query : Query)
    → place < length queries → query ≡ get_or queries place query → IsLeft queries first order lists (place ∷ places)
    → IsLeft queries first order (lists ++ denote (query_of query).expr (streams_of lists) ∷ []) places
left_after queries first order lists place places query lt is left = (
  subst (λ (n : ℕ). PublishNext n rest) counted next.1,
  subst (λ (streams : Streams). SuitInTurn streams rest) grown suited.1,
  ap (λ streams. published streams rest) (sym grown) ∙ ap (published (streams_of lists)) (sym cons) ∙ left.2,
  omega (arith, left.3, ap length cons, counted),
  take-append-le (length first) lists (tuples ∷ []) at_least ∙ left.4,
)
  where
    rest : List Term
    rest = placed queries places

    tuples : List TupleView
    tuples = denote (query_of query).expr (streams_of lists)

    cons : placed queries (place ∷ places) ≡ query_of query ∷ rest
    cons = placed-cons queries place places query lt is

    next : PublishNext (length lists) (query_of query ∷ rest)
    next = subst (PublishNext (length lists)) cons left.0

    suited : SuitInTurn (streams_of lists) (query_of query ∷ rest)
    suited = subst (SuitInTurn (streams_of lists)) cons left.1

    counted : length lists + 1 ≡ length (lists ++ tuples ∷ [])
    counted = sym (length-append lists (tuples ∷ []))

    grown : with_stream (streams_of lists) query.stream (denote (query_of query).expr (streams_after None (streams_of lists))) ≡ streams_of (lists ++ tuples ∷ [])
    grown =
        ap (λ streams. with_stream (streams_of lists) query.stream (denote (query_of query).expr streams)) (streams_after-none (streams_of lists))
        ∙ ap (λ n. with_stream (streams_of lists) n tuples) next.0 ∙ sym (streams_of-push lists tuples)

    at_least : length first ≤ length lists
    at_least = let short = length-take (length first) lists in let same = ap length left.4 in omega arith

-- each query publishes one of the next streams
next_below : (number : ℕ) (order : List Term) → PublishNext number order → All (λ query. query.stream < number + length order) order
next_below number [] next = All-nil _
next_below number (query ∷ order) next =
    let first : query.stream < number + length (query ∷ order) = omega (arith, next.0) in
    let rest = next_below (number + 1) order next.1 in
    All-cons (λ q. q.stream < number + length (query ∷ order)) query order first
    (All-weaker (λ q. q.stream < number + 1 + length order) (λ q. q.stream < number + length (query ∷ order)) (λ q lt. omega arith) order rest)

-- what holds of each term holds of each query
of_each_query : (P : Term → Type 0) (queries : List Query) → All P (map query_of queries) → All (λ query. P (query_of query)) queries
of_each_query P [] all = All-nil _
of_each_query P (query ∷ queries) all =
    All-cons (λ q. P (query_of q)) query queries (All-head P (query_of query) (map query_of queries) all) (of_each_query P queries (All-tail P (query_of query) (map query_of queries) all))

-- so does each query of the file
pub streams_below : (number count : ℕ) (queries : List Query) (places : List ℕ)
    → IsPermutation (map query_of queries) (placed queries places) → PublishNext number (placed queries places) → count ≡ number + length (placed queries places)
    → All (λ query. query.stream < count) queries
streams_below number count queries places same next e =
    let below = next_below number (placed queries places) next in
    let all = All-permutation (λ q. q.stream < number + length (placed queries places)) (placed queries places) (map query_of queries) (IsPermutation-sym (map query_of queries) (placed queries places) same) below in
    subst (λ (n : ℕ). All (λ (query : Query). query.stream < n) queries) (sym e) (of_each_query (λ q. q.stream < number + length (placed queries places)) queries all)

-- what is left at an index of the order is the place there, and then the rest
left_at : (queries : List Query) (first : List (List TupleView)) (order : List ℕ) (lists : List (List TupleView)) (index : ℕ) → index < length order
    → IsLeft queries first order lists (drop index order) → IsLeft queries first order lists (get_or order index 0 ∷ drop (index + 1) order)
left_at queries first order lists index lt left =
    let here : drop index order ≡ get_or order index 0 ∷ drop (index + 1) order = drop-cons order index 0 lt ∙ ap (λ n. get_or order index 0 ∷ drop n order) (sym (add-one index)) in
    subst (IsLeft queries first order lists) here left

-- the query whose place stands at an index of the order may be evaluated
pub indexed_suits : (queries : List Query) (first : List (List TupleView)) (order : List ℕ) (lists : List (List TupleView)) (index : ℕ) (query : Query)
    → All (λ place. place < length queries) order → index < length order → query ≡ get_or queries (get_or order index 0) query
    → IsLeft queries first order lists (drop index order) → Suits (query_of query).expr (length lists) (streams_of lists)
indexed_suits queries first order lists index query places lt is left =
    next_suits queries first order lists (get_or order index 0) (drop (index + 1) order) query (All-get_or (λ place. place < length queries) order index 0 lt places) is (left_at queries first order lists index lt left)

-- once it is published, the rest is left
pub left_after_index : (queries : List Query) (first : List (List TupleView)) (order : List ℕ) (lists after : List (List TupleView)) (index : ℕ) (query : Query)
    → All (λ place. place < length queries) order → index < length order → query ≡ get_or queries (get_or order index 0) query
    → IsLeft queries first order lists (drop index order) → after ≡ lists ++ denote (query_of query).expr (streams_of lists) ∷ [] → IsLeft queries first order after (drop (index + 1) order)
left_after_index queries first order lists after index query places lt is left put =
    let more = left_after queries first order lists (get_or order index 0) (drop (index + 1) order) query (All-get_or (λ place. place < length queries) order index 0 lt places) is (left_at queries first order lists index lt left) in
    subst (λ (ls : List (List TupleView)). IsLeft queries first order ls (drop (index + 1) order)) (sym put) more
