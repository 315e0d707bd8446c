-- The program of a catalogue that a query has left.
use Rattle.std.proofs.Common.{◌≡◌, ◌≢◌, ◌∙◌, ℕ, zero, suc, ◌<◌, List, [], ◌∷◌, ◌++◌, not, length, map, get_or, refl, sym, ap, inl, inr, arith}
use Rattle.std.specs.Prelude.{◌==◌, AllPairs, Contains, None, Some, slice_get}
use Rattle.std.specs.List.{All, filter, range_with_len, remove}
use Rattle.std.proofs.lemmas.Bool.{cases_lt}
use Rattle.std.proofs.lemmas.List.{get_or-map, length-map}
use Rattle.std.proofs.lemmas.List.Edits.{get_or-remove_above, get_or-remove_below, length-remove}
use Rattle.std.proofs.lemmas.List.Elements.{All-cons, All-contains, All-head, All-nil, All-tail, Contains-append_left, Contains-push}
use Rattle.std.proofs.lemmas.List.FromFn.{fill_by_all, get_or-map-range_with_len, length-map-range_with_len}
use Rattle.std.proofs.lemmas.List.Kept.{AllPairs-cons}
use Rattle.std.proofs.lemmas.Option.{get_or_from_slice_get}
use Rattle.event_types.specs.declared.kind.Kind.{Kind}
use Rattle.event_types.proofs.NumberLemmas.{is_other, self_equal}
use Rattle.expressions.specs.declared.expression.Expr.{Expr}
use Rattle.expressions.specs.Views.{ex_of}
use Rattle.semantics.specs.Expressions.{Read}
use Rattle.semantics.specs.Programs.{Query}
use Rattle.semantics.specs.TypedPrograms.{PublishInTurn}
use Rattle.stream_schema.specs.Streams.{Entry, renamed, retired_name, stream_names}
use Rattle.cel_types.specs.SourceLaws.{kinds_in}
use Rattle.catalogue.specs.declared.numbering.Published.{Published}
use Rattle.catalogue.specs.Catalogued.{Catalogued, program_in, queries_of, query_in, work_in}
use Rattle.catalogue.specs.Changes.{publishes_another, without_query}
use Rattle.work_order.specs.Numbers.{AreNumbers, moved_down}
use Rattle.work_order.proofs.NumbersLemmas.{place_back, place_in, stands_at}
use Rattle.catalogue.specs.Leaving.{catalogue_without, place_of}
use Rattle.catalogue.specs.Standing.{StandsInOrder}
use Rattle.catalogue.proofs.MovedLemmas.{before_move, found, left, left_many, left_numbers}
use Rattle.catalogue.proofs.RemovingLemmas.{filter_removes, remove_from}
use Rattle.catalogue.proofs.StandingLemmas.{name_at, queries_many}

-- what is there stands below the streams of all queries
pub behind_all : (kinds : ℕ → List Kind) (there : List ℕ) (order : List Query) → PublishInTurn kinds there order → (x : ℕ) → Contains there x → All (λ query. x < query.stream) order
behind_all kinds there [] turn x has = All-nil (λ (q : Query). x < q.stream)
behind_all kinds there (query ∷ order) turn x has =
    All-cons (λ (q : Query). x < q.stream) query order (All-contains (λ s. s < query.stream) there x turn.0 has)
    (behind_all kinds (there ++ query.stream ∷ []) order turn.3 x (Contains-append_left there (query.stream ∷ []) x has))

-- the queries publish greater and greater streams
turn_ascends : (kinds : ℕ → List Kind) (there : List ℕ) (order : List Query) → PublishInTurn kinds there order → AllPairs (λ earlier later. earlier.stream < later.stream) order
turn_ascends kinds there [] turn = λ i j d before inside. absurd (omega (arith, inside))
turn_ascends kinds there (query ∷ order) turn =
    AllPairs-cons (λ (q : Query) (r : Query). q.stream < r.stream) query order (behind_all kinds (there ++ query.stream ∷ []) order turn.3 query.stream (Contains-push there query.stream))
    (turn_ascends kinds (there ++ query.stream ∷ []) order turn.3)

-- queries without one of them
pub queries_remove : (streams : List Entry) (published : List Published) (xs : List Expr) (k : ℕ) → length published ≡ length xs → k < length published
    → queries_of streams (remove published k) (remove xs k) ≡ remove (queries_of streams published xs) k
queries_remove streams [] xs k same within = absurd (omega (arith, within))
queries_remove streams (p ∷ published) [] k same within = absurd (omega (arith, same))
queries_remove streams (p ∷ published) (x ∷ xs) zero same within = refl
queries_remove streams (p ∷ published) (x ∷ xs) (suc k) same within =
    ap (λ qs. record { name = get_or (stream_names streams) p.stream []; stream = p.stream; hidden = p.hidden; expr = ex_of x; birth = p.birth } ∷ qs) (queries_remove streams published xs k (omega (arith, same)) (omega (arith, within)))

-- another stream keeps its name
pub name_kept : (streams : List Entry) (stream other : ℕ) (name : List ℕ) → other ≢ stream → get_or (stream_names (renamed streams stream name)) other [] ≡ get_or (stream_names streams) other []
name_kept [] stream other name apart = refl
name_kept (s ∷ streams) zero zero name apart = absurd (apart refl)
name_kept (s ∷ streams) zero (suc other) name apart = refl
name_kept (s ∷ streams) (suc stream) zero name apart = refl
name_kept (s ∷ streams) (suc stream) (suc other) name apart = name_kept streams stream other name (λ same. apart (ap suc same))

-- so queries of other streams are the same
queries_renamed : (streams : List Entry) (stream : ℕ) (name : List ℕ) (published : List Published) (xs : List Expr) → All (λ publication. publication.stream ≢ stream) published
    → queries_of (renamed streams stream name) published xs ≡ queries_of streams published xs
queries_renamed streams stream name [] xs others = refl
queries_renamed streams stream name (p ∷ published) [] others = refl
queries_renamed streams stream name (p ∷ published) (x ∷ xs) others =
    let here = name_kept streams stream p.stream name (All-head (λ (q : Published). q.stream ≢ stream) p published others) in
    let rest = queries_renamed streams stream name published xs (All-tail (λ (q : Published). q.stream ≢ stream) p published others) in
    λ i. record { name = here i; stream = p.stream; hidden = p.hidden; expr = ex_of x; birth = p.birth } ∷ rest i

-- a query publishes what is told at its place
stream_told : (streams : List Entry) (published : List Published) (xs : List Expr) (k : ℕ) (d : Published) (e : Query) → length published ≡ length xs → k < length published
    → (get_or published k d).stream ≡ (get_or (queries_of streams published xs) k e).stream
stream_told streams [] xs k d e same within = absurd (omega (arith, within))
stream_told streams (p ∷ published) [] k d e same within = absurd (omega (arith, same))
stream_told streams (p ∷ published) (x ∷ xs) zero d e same within = refl
stream_told streams (p ∷ published) (x ∷ xs) (suc k) d e same within = stream_told streams published xs k d e (omega (arith, same)) (omega (arith, within))

module _ (c : Catalogued) (stands : StandsInOrder c) where
  abbrev pub none_such : Query
  none_such = record { name = []; stream = 0; hidden = 0; expr = Read 0; birth = None }

  pub both_many : length c.published ≡ length c.expressions
  both_many = stands.publish ∙ sym stands.express

  pub work_long : length (work_in c) ≡ length c.order
  work_long = queries_many c.streams c.published c.expressions both_many ∙ stands.express

  -- the queries at different places publish different streams
  pub work_apart : (i j : ℕ) → i < length (work_in c) → j < length (work_in c) → i ≢ j → (get_or (work_in c) i none_such).stream ≢ (get_or (work_in c) j none_such).stream
  work_apart i j i_inside j_inside other same =
      let ascends = turn_ascends (kinds_in c.streams) (range_with_len 0 c.declared) (work_in c) stands.wide.typed.in_turn in
      elim (cases_lt i j) [
        | inl before ↦ (let less = ascends i j none_such before j_inside in absurd (omega (arith, less, same)))
        | inr past ↦ elim (cases_lt j i) [
          | inl after ↦ (let less = ascends j i none_such after i_inside in absurd (omega (arith, less, same)))
          | inr equal ↦ other (omega (arith, past, equal))
        ]
      ]

  -- and what they publish rises
  pub published_rise : AllPairs (λ earlier later. earlier.stream < later.stream) c.published
  published_rise i j d before inside =
      let ascends = turn_ascends (kinds_in c.streams) (range_with_len 0 c.declared) (work_in c) stands.wide.typed.in_turn in
      let less = ascends i j none_such before (omega (arith, inside, work_long, stands.publish)) in
      omega (arith, less, stream_told c.streams c.published c.expressions i d none_such both_many (omega (arith, before, inside)), stream_told c.streams c.published c.expressions j d none_such both_many inside)

  module _ (number : ℕ) (small : number < length c.order) where
    abbrev at : ℕ
    at = place_of c number

    abbrev stream : ℕ
    stream = (query_in c number).stream

    abbrev left_catalogue : Catalogued
    left_catalogue = catalogue_without c number

    pub at_within : at < length c.order
    at_within = (stands_at c.order stands.numbered number small).0

    pub at_work : at < length (work_in c)
    at_work = omega (arith, at_within, work_long)

    others_told : All (λ publication. publication.stream ≢ stream) (remove c.published at)
    others_told =
        let d : Published = record { stream = 0; hidden = 0; birth = None } in
        remove_from (λ (p : Published). p.stream ≢ stream) c.published at d (omega (arith, at_within, stands.publish))
        (λ i inside other same. work_apart i at (omega (arith, inside, work_long, stands.publish)) at_work other (sym (stream_told c.streams c.published c.expressions i d none_such both_many inside) ∙ same))

    -- the other queries are worked on
    pub work_left : work_in left_catalogue ≡ remove (work_in c) at
    work_left =
        queries_renamed c.streams stream (retired_name stream) (remove c.published at) (remove c.expressions at) others_told
        ∙ queries_remove c.streams c.published c.expressions at both_many (omega (arith, at_within, stands.publish))

    work_filtered : filter (publishes_another stream) (work_in c) ≡ remove (work_in c) at
    work_filtered =
        filter_removes (publishes_another stream) (work_in c) at none_such at_work (ap not (self_equal stream))
        (λ i inside other. ap not (is_other (get_or (work_in c) i none_such).stream stream (work_apart i at inside at_work other)))

    abbrev pub numbers : List ℕ
    numbers = left c.order stands.numbered number small

    abbrev pub numbers_are : AreNumbers numbers
    numbers_are = left_numbers c.order stands.numbered number small

    -- a query is that which had the number before
    pub query_left : (k old : ℕ) → old < length c.order → old ≢ number → moved_down number old ≡ k → query_in left_catalogue k ≡ query_in c old
    query_left k old within other moved =
        let (i, inside, is, same) = found c.order stands.numbered number small old within other in
        let i_inside : i < length numbers = omega (arith, inside, length-map (remove c.order at) (moved_down number)) in
        let there : get_or numbers i 0 ≡ k = get_or-map (moved_down number) (remove c.order at) i 0 0 inside ∙ ap (moved_down number) is ∙ moved in
        let place : place_in numbers numbers_are k ≡ i = ap (place_in numbers numbers_are) (sym there) ∙ place_back numbers numbers_are i i_inside in
        (λ t. get_or (work_left t) (place t) none_such) ∙ same (work_in c) none_such work_long

    abbrev all : List Query
    all = map (query_in c) (range_with_len 0 (length c.order))

    all_long : length all ≡ length c.order
    all_long = length-map-range_with_len (query_in c) 0 (length c.order)

    all_at : (i : ℕ) → i < length c.order → get_or all i none_such ≡ query_in c i
    all_at i inside = get_or-map-range_with_len (query_in c) 0 (length c.order) i i none_such inside (omega arith)

    -- by number they are all but that one
    pub queries_left : remove all number ≡ map (query_in left_catalogue) (range_with_len 0 (length numbers))
    queries_left =
        let inside_all : number < length all = omega (arith, small, all_long) in
        let fewer = length-remove all number inside_all in
        let many = left_many c.order stands.numbered number small in
        fill_by_all (query_in left_catalogue) (remove all number) (length numbers) none_such (omega (arith, fewer, many, all_long)) (λ k inside.
        let (old, within, other, moved, which) = before_move c.order stands.numbered number small k inside in
        let is : query_in left_catalogue k ≡ query_in c old = query_left k old within other moved in
        elim which [
          | inl low ↦ get_or-remove_below all number none_such k low.1 inside_all ∙ ap (λ n. get_or all n none_such) (sym low.0) ∙ all_at old within ∙ sym is
          | inr high ↦ get_or-remove_above all number none_such k high.1 inside_all ∙ ap (λ n. get_or all n none_such) (sym high.0) ∙ all_at old within ∙ sym is
        ])

    -- a query with another number publishes another stream
    pub other_stream : (i : ℕ) → i < length c.order → i ≢ number → (query_in c i).stream ≢ stream
    other_stream i inside other =
        let here = stands_at c.order stands.numbered i inside in
        work_apart (place_in c.order stands.numbered i) at (omega (arith, here.0, work_long)) at_work
        (λ same. other (sym here.1 ∙ ap (λ n. get_or c.order n 0) same ∙ (stands_at c.order stands.numbered number small).1))

    queries_filtered : filter (publishes_another stream) all ≡ remove all number
    queries_filtered =
        filter_removes (publishes_another stream) all number none_such (omega (arith, small, all_long)) (ap (λ (q : Query). not (q.stream == stream)) (all_at number small) ∙ ap not (self_equal stream))
        (λ i inside other.
        let within : i < length c.order = omega (arith, inside, all_long) in
        ap (λ (q : Query). not (q.stream == stream)) (all_at i within) ∙ ap not (is_other (query_in c i).stream stream (other_stream i within other)))

    -- so it is the program without that query
    pub program_left : program_in left_catalogue ≡ without_query (program_in c) stream
    program_left = λ t. record { declared = c.declared; queries = (sym queries_left ∙ sym queries_filtered) t; order = (work_left ∙ sym work_filtered) t }

    -- its name is that which its stream has
    pub name_there : (streams : List Entry) (stream : ℕ) (name : List ℕ) → streams ≡ c.streams → stream ≡ (query_in c number).stream → slice_get (stream_names streams) stream ≡ Some name → (query_in c number).name ≡ name
    name_there streams stream name same is there =
        name_at c stands number at refl at_within ∙ (λ t. get_or (stream_names (sym same t)) (sym is t) []) ∙ get_or_from_slice_get (stream_names streams) stream name [] there
