-- The tuples of an epoch, stream by stream.
use Rattle.std.proofs.Common.{◌≡◌, ◌∙◌, sym, ap, refl, subst, inl, inr, ℕ, ◌+◌, ◌<◌, ◌==◌, ◌||◌, ◌⊎◌, Bool, true, false, cond, length, get_or, take, drop, List, [], ◌∷◌, ◌++◌, add-one, arith, ◌≤◌}
use Rattle.std.specs.Prelude.{Contains, Option, Some, slice_get, sum_by, option_to_list}
use Rattle.std.specs.List.{All}
use Rattle.std.specs.List.Sorted.{IsPermutation, IsSorted}
use Rattle.std.proofs.Math.Seq.{drop-cons}
use Rattle.std.proofs.lemmas.Bool.Decides.{nat_tests}
use Rattle.std.proofs.lemmas.Grind.{get_or-set_at}
use Rattle.std.proofs.lemmas.List.{append-nil, get_or-set_other, length-append, length-set, take-append-drop, take_more}
use Rattle.std.proofs.lemmas.List.Elements.{All-contains, All-contains_itself, All-get_or, All-nil, All-push, All-weaker, Contains-append_cases, Contains-append_left, Contains-append_right, Contains-push, Contains-push_cases}
use Rattle.std.proofs.lemmas.List.Folds.{list_any-append}
use Rattle.std.proofs.lemmas.List.Sorted.{All-permutation, IsPermutation-cons, IsPermutation-middle, IsPermutation-refl, IsPermutation-sym, IsPermutation-trans, length_permutation, sum_by-IsPermutation}
use Rattle.std.proofs.lemmas.Option.{slice_get-get_or}
use Rattle.std.specs.Ordering.{is_gt}
use Rattle.std.specs.declared.cmp.Ordering.{Ordering}
use Rattle.event_types.specs.declared.kind.Kind.{Kind}
use Rattle.event_types.specs.Order.{put, sorted, tuple_cmp}
use Rattle.event_types.specs.OrderLaws.{tuple_exact, tuple_total}
use Rattle.event_types.specs.Tuple.{TupleView}
use Rattle.event_types.proofs.SortLemmas.{sort_permuted, sorted_is}
use Rattle.binding_index.specs.declared.store.Store.{Store}
use Rattle.instances.specs.declared.instance.Instance.{Instance}
use Rattle.semantics.specs.Denotation.{Streams, streams_of}
use Rattle.semantics.specs.Kinds.{HasKinds}
use Rattle.semantics.specs.Programs.{with_stream}
use Rattle.scalar_expr.proofs.Bags.{permuted_from}
use Rattle.automaton.specs.Networks.{IsNetwork}
use Rattle.automaton.specs.States.{Net}
use Rattle.automaton.specs.Work.{IsInOrder, is_in}
use Rattle.automaton.specs.declared.layout.Layout.{Layout}
use Rattle.automaton.specs.declared.line.Line.{Line}
use Rattle.stream_readers.specs.Finding.{waits_on}
use Rattle.epoch_laws.specs.BornLines.{lines_in}
use Rattle.epoch_laws.specs.Closing.{IsEpoch, Stores, given_by_ends}
use Rattle.epoch_laws.specs.StoresStandFor.{Serves}
use Rattle.epoch_laws.proofs.Bags.{no_length}
use Rattle.epoch_laws.proofs.Grows.{epoch_grows, epoch_starts}
use Rattle.epoch_laws.proofs.Lists.{All_last}
use Rattle.epoch_draft.specs.Agenda.{IsUnread}
use Rattle.epoch_draft.specs.Deriving.{AreOpened, CanDraw, DrawnUpTo, Meets, news_of, opened_of}
use Rattle.epoch_draft.specs.Drafts.{Adds, DraftFits, EndsBelow, Grows, IsDraftOf}
use Rattle.epoch_draft.specs.Drawn.{Drawn, Paired}
use Rattle.epoch_draft.specs.Held.{held}
use Rattle.epoch_draft.specs.Meeting.{ListsAll, moves_of_all}
use Rattle.epoch_draft.specs.Moves.{Move, made_of}
use Rattle.epoch_draft.specs.Suits.{TupleSuits}
use Rattle.epoch_draft.specs.EpochWork.{derived_tests, pairs_work}
use Rattle.epoch_draft.specs.Takes.{tuple_of, take_work, takes_work}
use Rattle.epoch_draft.specs.Tests.{stream_work, tuple_work}
use Rattle.epoch_draft.specs.Typed.{HaveKinds, IsTyped}
use Rattle.epoch_draft.specs.declared.draft.Draft.{Draft}
use Rattle.epoch_draft.specs.declared.draft.Pair.{Pair}
use Rattle.epoch_draft.proofs.DrawnLemmas.{bound_grows, drawn_comes, made_grows, moves_seen, paired_comes, stream_comes, unbound_grows}
use Rattle.epoch_draft.proofs.DueLemmas.{ends_below}
use Rattle.epoch_draft.proofs.GoingLemmas.{all_left}
use Rattle.epoch_draft.proofs.Moves.{is_itself}
use Rattle.epoch_draft.proofs.SuitLemmas.{published_kinds, tuple_suits}
use Rattle.std.proofs.lemmas.Bool.{or_parts}
use Rattle.event_types.proofs.NumberLemmas.{same_number}
use Rattle.automaton.proofs.NumberLemmas.{are_same_or_not}
use Rattle.epoch_draft.proofs.Lists.{none_in}
use Rattle.epoch_draft.proofs.EpochLemmas.{derived_first}
use Rattle.epoch_draft.proofs.TakeLemmas.{takes_agree, takes_grow}

-- the open tuples are met, and the derived streams that are done, which may have theirs in any order
pub record MadeUpTo (net : Net) (layout : Layout) (stores : List (Option Store)) (opened : List (List TupleView)) (done : List ℕ) (draft : Draft) (pairs : List Pair) : Type 0 where
  pub fits : DraftFits (length layout.kinds) (length net) draft
  pub drawn : Drawn net (held stores) (news_of opened draft.made done) draft
  pub paired : Paired net (held stores) (news_of opened draft.made done) pairs
  pub epoch : IsEpoch net done (held stores) (streams_of opened) (news_of opened draft.made done)
  pub kinds : HaveKinds layout.kinds (news_of opened draft.made done)

-- what is drawn is made
pub drawn_made : (net : Net) (layout : Layout) (stores : List (Option Store)) (opened : List (List TupleView)) (done : List ℕ) (draft : Draft) (pairs : List Pair) → DrawnUpTo net layout stores opened done draft pairs → MadeUpTo net layout stores opened done draft pairs
drawn_made net layout stores opened done draft pairs was = record { fits = was.fits; drawn = was.drawn; paired = was.paired; epoch = was.epoch; kinds = was.kinds }

-- those of these streams that some state reads have their tuples in order
abbrev pub AreReadInOrder : Net → List (List TupleView) → List ℕ → Type 0
AreReadInOrder net made streams = All (λ s. IsUnread net s ⊎ (sorted (get_or made s []) ≡ get_or made s [])) streams

or-true : (a : Bool) → (a || true) ≡ true
or-true true = refl
or-true false = refl

or-false : (a : Bool) → (a || false) ≡ a
or-false true = refl
or-false false = refl

turned : (m n : ℕ) → (m == n) ≡ false → (n == m) ≡ false
turned m n e = grind (arith, nat_tests)

other_test : (m n : ℕ) → (m ≡ n → ⊥) → (m == n) ≡ false
other_test m n ne = grind (arith, nat_tests)

-- a draft that fits the streams of a layout is for its network
pub drawn_of : (net : Net) (layout : Layout) (stores : List (Option Store)) (opened : List (List TupleView)) (draft : Draft) → CanDraw net layout stores opened → DraftFits (length layout.kinds) (length net) draft → IsDraftOf net draft
drawn_of net layout stores opened draft can fits = record {
  below = subst (λ (m : ℕ). EndsBelow net m) (sym fits.made) (ends_below net layout.order (length layout.kinds) can.ends can.order);
  fits = subst (λ (m : ℕ). DraftFits m (length net) draft) (sym fits.made) fits;
}

-- a listed number is tested to be
pub in_contains : (xs : List ℕ) (n : ℕ) → Contains xs n → is_in xs n ≡ true
in_contains [] n c = absurd (none_in n c)
in_contains (x ∷ xs) n c = go (Contains-append_cases (x ∷ []) xs n c) (in_contains xs n)
  where
    first : Contains [] n ⊎ (x ≡ n) → is_in (x ∷ xs) n ≡ true
    first (inl c) = absurd (none_in n c)
    first (inr same) = ap (λ m. (n == m) || is_in xs n) same ∙ ap (λ b. b || is_in xs n) (is_itself n)

    go : Contains (x ∷ []) n ⊎ Contains xs n → (Contains xs n → is_in xs n ≡ true) → is_in (x ∷ xs) n ≡ true
    go (inl c) rest = first (Contains-push_cases [] x n c)
    go (inr c) rest = ap (λ b. (n == x) || b) (rest c) ∙ or-true (n == x)

-- a number that is tested to be listed is
pub contains_in : (xs : List ℕ) (n : ℕ) → is_in xs n ≡ true → Contains xs n
contains_in [] n e = absurd (cc)
contains_in (x ∷ xs) n e = go (n == x) refl e (contains_in xs n)
  where
    go : (b : Bool) → (n == x) ≡ b → (b || is_in xs n) ≡ true → (is_in xs n ≡ true → Contains xs n) → Contains (x ∷ xs) n
    go true is e rest = subst (Contains (x ∷ xs)) (sym (same_number n x is)) (Contains-append_left (x ∷ []) xs x (Contains-push [] x))
    go false is e rest = Contains-append_right (x ∷ []) xs n (rest e)

in_push : (xs : List ℕ) (s t : ℕ) → is_in (xs ++ s ∷ []) t ≡ (is_in xs t || (t == s))
in_push xs s t = list_any-append (λ n. t == n) xs (s ∷ []) ∙ ap (λ b. is_in xs t || b) (or-false (t == s))

not_in : (xs : List ℕ) (n : ℕ) → (Contains xs n → ⊥) → is_in xs n ≡ false
not_in xs n absent = go (is_in xs n) refl
  where
    go : (b : Bool) → is_in xs n ≡ b → b ≡ false
    go true e = absurd (absent (contains_in xs n e))
    go false e = refl

-- a stream of the order isn't done before it is reached
pub not_done : (lines : List Line) (done : List ℕ) (s : ℕ) (rest : List ℕ) → IsInOrder lines (done ++ (s ∷ rest)) → is_in done s ≡ false
not_done lines [] s rest ordered = refl
not_done lines (t ∷ done) s rest ordered = ap (λ b. b || is_in done s) (turned t s apart) ∙ not_done lines done s rest ordered.2
  where
    apart : (t == s) ≡ false
    apart = (or_parts (t == s) (is_in rest t) (or_parts (is_in done t) ((t == s) || is_in rest t) (sym (list_any-append (λ n. t == n) done (s ∷ rest)) ∙ ordered.1)).1).0

-- an item that is put in its place comes to the others
put_permutes : {X : Type 0} (R : X → X → Ordering) (x : X) (xs : List X) → IsPermutation (put R x xs) (x ∷ xs)
put_permutes R x [] = IsPermutation-refl (x ∷ [])
put_permutes R x (y ∷ ys) =
    elim (is_gt (R x y)) as (λ b. IsPermutation (cond b (y ∷ put R x ys) (x ∷ y ∷ ys)) (x ∷ y ∷ ys)) [
      | true ↦ IsPermutation-trans _ _ _ (IsPermutation-cons y _ _ (put_permutes R x ys)) (IsPermutation-middle (y ∷ []) x ys)
      | false ↦ IsPermutation-refl _
    ]

-- tuples that are put in order are the same tuples
pub sort_permutes : (xs : List TupleView) → IsPermutation (sorted xs) xs
sort_permutes [] = IsPermutation-refl []
sort_permutes (x ∷ xs) = IsPermutation-trans _ _ _ (put_permutes tuple_cmp x (sorted xs)) (IsPermutation-cons x _ _ (sort_permutes xs))

-- tuples in order stay as they are
pub sort_twice : (xs : List TupleView) → sorted (sorted xs) ≡ sorted xs
sort_twice xs = sort_permuted tuple_cmp tuple_total tuple_exact (sorted xs) xs (sort_permutes xs)

-- what a sort makes of tuples
pub in_order : (rows old new : List TupleView) → old ≡ rows → IsPermutation old new → IsSorted tuple_cmp new → new ≡ sorted rows
in_order rows old new is permuted up = sorted_is tuple_cmp tuple_total tuple_exact old new permuted up ∙ ap sorted is

-- tuples of a stream's kinds are suited
pub rows_suit : (net : Net) → IsNetwork net → (kinds : List (List Kind)) (stores : List (Option Store)) → IsTyped net kinds stores → (s : ℕ) → s < length kinds → (rows : List TupleView) → ((known : List Kind) → slice_get kinds s ≡ Some known → All (HasKinds known) rows)
    → All (TupleSuits net (held stores) s) rows
rows_suit net network kinds stores typed s lt rows have =
    let known = get_or kinds s [] in
    let is = slice_get-get_or kinds s [] lt in
    All-weaker (HasKinds known) (TupleSuits net (held stores) s) (λ r h. tuple_suits net network kinds stores typed s known is r h) rows (have known is)

-- the open tuples of one stream more
pub opened_step : (opened : List (List TupleView)) (done : List ℕ) (s : ℕ) → with_stream (opened_of opened done) s (get_or opened s []) ≡ opened_of opened (done ++ s ∷ [])
opened_step opened done s = λ i t. each t i
  where
    go : (t : ℕ) (b d : Bool) → (t == s) ≡ b → cond b (get_or opened s []) (cond d (get_or opened t []) []) ≡ cond (d || b) (get_or opened t []) []
    go t true d e = ap (λ k. get_or opened k []) (sym (same_number t s e)) ∙ sym (ap (λ c. cond c (get_or opened t []) []) (or-true d))
    go t false d e = sym (ap (λ c. cond c (get_or opened t []) []) (or-false d))

    each : (t : ℕ) → with_stream (opened_of opened done) s (get_or opened s []) t ≡ opened_of opened (done ++ s ∷ []) t
    each t = go t (t == s) (is_in done t) refl ∙ ap (λ c. cond c (get_or opened t []) []) (sym (in_push done s t))

-- a stream that is not met yet has none of its open tuples
pub opened_none : (opened : List (List TupleView)) (done : List ℕ) (s : ℕ) → (Contains done s → ⊥) → opened_of opened done s ≡ []
opened_none opened done s absent = ap (λ b. cond b (get_or opened s []) []) (not_in done s absent)

-- once each stream with open tuples is met, the open tuples are all news so far
pub opened_all : (opened made : List (List TupleView)) (touched : List ℕ) → AreOpened opened touched → opened_of opened touched ≡ news_of opened made []
opened_all opened made touched are = λ i t. each t i
  where
    go : (t : ℕ) (b : Bool) → is_in touched t ≡ b → (get_or opened t [] ≡ []) ⊎ Contains touched t → cond b (get_or opened t []) [] ≡ get_or opened t []
    go t true e h = refl
    go t false e (inl none) = sym none
    go t false e (inr there) = absurd (let yes = in_contains touched t there in cc)

    each : (t : ℕ) → opened_of opened touched t ≡ get_or opened t []
    each t = go t (is_in touched t) refl (are.all t)

-- no stream is met yet
pub paired_none : (net : Net) (stores : Stores) (pairs : List Pair) → pairs ≡ [] → Paired net stores (λ _. []) pairs
paired_none net stores pairs none = record {
  sound = subst (All (λ (p : Pair). Contains (waits_on net p.stream) p.state × (p.place < length {A = TupleView} []))) (sym none) (All-nil (λ (p : Pair). Contains (waits_on net p.stream) p.state × (p.place < length {A = TupleView} [])));
  listed = λ s k r e n c. absurd (cc);
}

-- one more of the open streams is met
pub opened_more : (net : Net) (stores : Stores) (opened : List (List TupleView)) (touched : List ℕ) (i : ℕ) (old new : Draft) (pairs more : List Pair) → IsNetwork net → i < length touched → (Contains (take i touched) (get_or touched i 0) → ⊥)
    → Drawn net stores (opened_of opened (take i touched)) old → Paired net stores (opened_of opened (take i touched)) pairs
    → Grows net (moves_of_all net stores (get_or touched i 0) (get_or opened (get_or touched i 0) [])) old new → ListsAll net stores (get_or touched i 0) (get_or opened (get_or touched i 0) []) pairs more
    → Drawn net stores (opened_of opened (take (i + 1) touched)) new × Paired net stores (opened_of opened (take (i + 1) touched)) more
opened_more net stores opened touched i old new pairs more network lt once drawn paired grows lists = (
  subst (λ (seen : Streams). Drawn net stores seen new) (ap (with_stream seen s) longer ∙ later) (drawn_comes net stores seen s rows old new network drawn grows),
  subst (λ (seen : Streams). Paired net stores seen more) later (paired_comes net stores seen s rows pairs more none paired lists),
)
  where
    s : ℕ
    s = get_or touched i 0

    rows : List TupleView
    rows = get_or opened s []

    seen : Streams
    seen = opened_of opened (take i touched)

    none : seen s ≡ []
    none = opened_none opened (take i touched) s once

    longer : seen s ++ rows ≡ rows
    longer = ap (λ xs. xs ++ rows) none

    later : with_stream seen s rows ≡ opened_of opened (take (i + 1) touched)
    later = opened_step opened (take i touched) s ∙ ap (opened_of opened) (sym (take_more touched i 0 lt))

-- once all are
pub opened_drawn : (net : Net) (layout : Layout) (stores : List (Option Store)) (opened : List (List TupleView)) (touched : List ℕ) (draft : Draft) (pairs : List Pair) → CanDraw net layout stores opened → AreOpened opened touched
    → DraftFits (length layout.kinds) (length net) draft → Drawn net (held stores) (opened_of opened touched) draft → Paired net (held stores) (opened_of opened touched) pairs → DrawnUpTo net layout stores opened [] draft pairs
opened_drawn net layout stores opened touched draft pairs can are fits drawn paired = record {
  fits = fits;
  drawn = subst (λ (seen : Streams). Drawn net (held stores) seen draft) (opened_all opened draft.made touched are) drawn;
  paired = subst (λ (seen : Streams). Paired net (held stores) seen pairs) (opened_all opened draft.made touched are) paired;
  epoch = epoch_starts net (held stores) (streams_of opened) (streams_of opened) (λ s. IsPermutation-refl (get_or opened s []));
  kinds = can.kinds;
  ordered = All-nil (λ s. sorted (get_or draft.made s []) ≡ get_or draft.made s []);
}

-- the tuples once a stream more is done
news_step : (opened made more : List (List TupleView)) (done : List ℕ) (s : ℕ) (rows : List TupleView) → get_or more s [] ≡ rows → ((t : ℕ) → (t == s) ≡ false → is_in done t ≡ true → get_or more t [] ≡ get_or made t []) → with_stream (news_of opened made done) s rows ≡ news_of opened more (done ++ s ∷ [])
news_step opened made more done s rows is same = λ i t. each t i
  where
    go : (t : ℕ) (b d : Bool) → (t == s) ≡ b → is_in done t ≡ d → cond b rows (cond d (get_or made t []) (get_or opened t [])) ≡ cond (d || b) (get_or more t []) (get_or opened t [])
    go t true true e f = sym (ap (λ k. get_or more k []) (same_number t s e) ∙ is)
    go t true false e f = sym (ap (λ k. get_or more k []) (same_number t s e) ∙ is)
    go t false true e f = sym (same t e f)
    go t false false e f = refl

    each : (t : ℕ) → with_stream (news_of opened made done) s rows t ≡ news_of opened more (done ++ s ∷ []) t
    each t = go t (t == s) (is_in done t) refl refl ∙ ap (λ c. cond c (get_or more t []) (get_or opened t [])) (sym (in_push done s t))

-- the tests of tuples don't depend on their order
pub ordered_ticks : (net : Net) (stores : Stores) (s : ℕ) (rows tuples : List TupleView) → tuples ≡ sorted rows → (start end : ℕ) → end ≤ start + stream_work net stores s tuples → end ≤ start + stream_work net stores s rows
ordered_ticks net stores s rows tuples is start end ticks =
    let work = ap (stream_work net stores s) is ∙ sym (sum_by-IsPermutation (tuple_work net stores s) (sorted rows) rows (sort_permutes rows)) in omega (arith, ticks, work)

module _ (net : Net) (layout : Layout) (stores : List (Option Store)) (opened : List (List TupleView)) (can : CanDraw net layout stores opened) (i : ℕ) (lt : i < length layout.order) where
  abbrev order : List ℕ
  order = layout.order

  abbrev s : ℕ
  s = get_or layout.order i 0

  abbrev done : List ℕ
  done = take i layout.order

  split : order ≡ done ++ (s ∷ drop (i + 1) order)
  split =
      sym (take-append-drop i order) ∙ ap (λ xs. take i order ++ xs) (drop-cons order i 0 lt) ∙ ap (λ (k : ℕ). take i order ++ (s ∷ drop k order)) (sym (add-one i))

  -- it comes next
  next_first : drop i order ≡ s ∷ drop (i + 1) order
  next_first = drop-cons order i 0 lt ∙ ap (λ (k : ℕ). s ∷ drop k order) (sym (add-one i))

  serves : Serves net can.lines (done ++ (s ∷ drop (i + 1) order))
  serves = subst (Serves net can.lines) split can.serves

  underived : get_or opened s [] ≡ []
  underived = All-get_or (λ t. get_or opened t [] ≡ []) order i 0 lt can.underived

  -- the stream is one of the layout
  pub below : s < length layout.kinds
  below = All-get_or (λ t. t < length layout.kinds) order i 0 lt can.order

  apart : is_in done s ≡ false
  apart = not_done (lines_in can.lines) done s (drop (i + 1) order) serves.in_order

  -- the stream has no tuples yet
  unseen : (made : List (List TupleView)) → news_of opened made done s ≡ []
  unseen made = ap (λ b. cond b (get_or made s []) (get_or opened s [])) apart ∙ underived

  -- what is made for it suits
  pub made_suits : (draft : Draft) (pairs : List Pair) → MadeUpTo net layout stores opened done draft pairs → All (TupleSuits net (held stores) s) (get_or draft.made s [])
  made_suits draft pairs was =
      rows_suit net can.network layout.kinds stores can.typed s below (get_or draft.made s [])
      (λ known is.
      All-permutation (HasKinds known) (given_by_ends net (news_of opened draft.made done) (held stores) s) (get_or draft.made s []) (IsPermutation-sym _ _ (was.drawn.made s))
      (published_kinds net can.network layout.kinds stores can.typed (news_of opened draft.made done) was.kinds s known is))

  -- the tests of what is made for the stream are among those that are left
  pub made_within : (tests : ℕ → TupleView → ℕ) (draft : Draft) (pairs : List Pair) → MadeUpTo net layout stores opened done draft pairs
      → sum_by (tests s) (get_or draft.made s []) ≤ derived_tests tests net (drop i order) (held stores) (news_of opened draft.made done)
  made_within tests draft pairs was =
      let seen = news_of opened draft.made done in
      let first = derived_first tests net (held stores) s (drop (i + 1) order) seen (get_or draft.made s []) (was.drawn.made s) in
      let all = ap (λ (ns : List ℕ). derived_tests tests net ns (held stores) seen) next_first in omega (arith, first, all)

  -- one that is
  module _ (old new : Draft) (pairs more : List Pair) (was : MadeUpTo net layout stores opened done old pairs) (meets : Meets net (held stores) s old new pairs more) where
    abbrev seen : Streams
    seen = news_of opened old.made done

    abbrev rows : List TupleView
    rows = meets.tuples

    abbrev later : Streams
    later = with_stream seen s rows

    abbrev moves : List Move
    moves = moves_of_all net (held stores) s rows

    published_rows : IsPermutation rows (given_by_ends net seen (held stores) s)
    published_rows = IsPermutation-trans _ _ _ meets.same (was.drawn.made s)

    grown : IsEpoch net (done ++ s ∷ []) (held stores) (streams_of opened) later
    grown = epoch_grows net can.lines done s (drop (i + 1) order) (held stores) (streams_of opened) seen rows serves was.epoch published_rows

    comes : IsPermutation (moves_seen net (held stores) later) (moves_seen net (held stores) seen ++ moves)
    comes = subst (λ (ts : List TupleView). IsPermutation (moves_seen net (held stores) (with_stream seen s (ts ++ rows))) (moves_seen net (held stores) seen ++ moves)) (unseen old.made) (stream_comes net (held stores) s rows seen)

    there : s < length meets.met.made
    there = let e = meets.grows.fits.made in let f = length-set old.made s [] in omega (arith, e, f, was.fits.made, below)

    own : get_or new.made s [] ≡ rows
    own = ap (λ (l : List (List TupleView)). get_or l s []) meets.made ∙ get_or-set_at meets.met.made s s rows [] refl there

    others : (t : ℕ) → (t ≡ s → ⊥) → Adds (made_of t moves) (get_or old.made t []) (get_or new.made t [])
    others t other =
        let adds = meets.grows.made t in record {
          added = adds.added;
          is =
              ap (λ (l : List (List TupleView)). get_or l t []) meets.made ∙ get_or-set_other meets.met.made s t rows [] other ∙ adds.is ∙ ap (λ xs. xs ++ adds.added) (get_or-set_other old.made s t [] [] other);
          same = adds.same;
        }

    own_published : IsPermutation rows (given_by_ends net later (held stores) s)
    own_published =
        permuted_from (sym (ap (λ b. cond b rows (seen s)) (is_itself s)))
        (All_last (λ t. IsPermutation (later t) (given_by_ends net later (held stores) t)) done s grown.derived)

    made_at : (t : ℕ) → (t ≡ s) ⊎ (t ≡ s → ⊥) → IsPermutation (get_or new.made t []) (given_by_ends net later (held stores) t)
    made_at t (inl same) = subst (λ u. IsPermutation (get_or new.made u []) (given_by_ends net later (held stores) u)) (sym same) (permuted_from own own_published)
    made_at t (inr other) = made_grows net (held stores) seen later moves t (get_or old.made t []) (get_or new.made t []) comes (was.drawn.made t) (others t other)

    drawn : Drawn net (held stores) later new
    drawn = record {
      made = λ t. made_at t (are_same_or_not t s);
      bound = λ n b hop at.
          bound_grows net can.network (held stores) seen later moves n b hop at (get_or old.beads n []) (get_or new.beads n []) comes (was.drawn.bound n b hop at)
          (permuted_from (ap (λ (l : List (List Instance)). get_or l n []) meets.beads) (meets.grows.bound n));
      unbound = λ n none.
          unbound_grows net can.network (held stores) s rows n (get_or old.beads n []) (get_or new.beads n []) none
          (permuted_from (ap (λ (l : List (List Instance)). get_or l n []) meets.beads) (meets.grows.bound n)) (was.drawn.unbound n none);
    }

    -- a stream that was done has no more
    kept : (t : ℕ) → (t == s) ≡ false → is_in done t ≡ true → get_or new.made t [] ≡ get_or old.made t []
    kept t e f =
        let before : IsPermutation (later t) (given_by_ends net later (held stores) t) =
        All-contains (λ t. IsPermutation (later t) (given_by_ends net later (held stores) t)) done t (all_left (λ t. IsPermutation (later t) (given_by_ends net later (held stores) t)) done (s ∷ []) grown.derived) (contains_in done t f) in
        let is : later t ≡ get_or old.made t [] = ap (λ b. cond b rows (seen t)) e ∙ ap (λ b. cond b (get_or old.made t []) (get_or opened t [])) f in
        let adds = others t (λ same. absurd (let no = ap (λ k. k == s) same ∙ is_itself s in cc)) in
        let one : length (given_by_ends net later (held stores) t) ≡ length (get_or old.made t []) = length_permutation _ _ before ∙ ap length is in
        let two : length (given_by_ends net later (held stores) t) ≡ length (get_or new.made t []) = length_permutation _ _ (drawn.made t) in
        let three : length (get_or new.made t []) ≡ length (get_or old.made t []) + length adds.added = ap length adds.is ∙ length-append (get_or old.made t []) adds.added in
        adds.is ∙ ap (λ xs. get_or old.made t [] ++ xs) (no_length adds.added (omega (arith, one, two, three))) ∙ append-nil (get_or old.made t [])

    kinds : HaveKinds layout.kinds later
    kinds t known is = go (t == s) refl
      where
        go : (b : Bool) → (t == s) ≡ b → All (HasKinds known) (cond b rows (seen t))
        go true e =
            All-permutation (HasKinds known) (given_by_ends net seen (held stores) s) rows (IsPermutation-sym _ _ published_rows)
            (published_kinds net can.network layout.kinds stores can.typed seen was.kinds s known (ap (slice_get layout.kinds) (sym (same_number t s e)) ∙ is))
        go false e = was.kinds t known is

    step : later ≡ news_of opened new.made (done ++ s ∷ [])
    step = news_step opened old.made new.made done s rows own kept

    -- a stream that was done is another one
    apart_from : (t : ℕ) → is_in done t ≡ true → (t == s) ≡ false
    apart_from t f = go (t == s) refl
      where
        go : (b : Bool) → (t == s) ≡ b → b ≡ false
        go true e = absurd (let no = sym f ∙ ap (is_in done) (same_number t s e) ∙ apart in cc)
        go false e = refl

    -- those that were done stay in order
    pub order_stays : AreReadInOrder net old.made done → IsUnread net s ⊎ (sorted rows ≡ rows) → AreReadInOrder net new.made (take (i + 1) order)
    order_stays was this =
        subst (AreReadInOrder net new.made) (sym (take_more order i 0 lt))
        (All-push IsInOrder done s (All-weaker (Contains done) IsInOrder each done (All-contains_itself done)) (mine this))
      where
        IsInOrder : ℕ → Type 0
        IsInOrder t = IsUnread net t ⊎ (sorted (get_or new.made t []) ≡ get_or new.made t [])

        mine : IsUnread net s ⊎ (sorted rows ≡ rows) → IsInOrder s
        mine (inl unread) = inl unread
        mine (inr ordered) = inr (ap sorted own ∙ ordered ∙ sym own)

        each : (t : ℕ) → Contains done t → IsInOrder t
        each t c = go (All-contains (λ u. IsUnread net u ⊎ (sorted (get_or old.made u []) ≡ get_or old.made u [])) done t was c)
          where
            go : IsUnread net t ⊎ (sorted (get_or old.made t []) ≡ get_or old.made t []) → IsInOrder t
            go (inl unread) = inl unread
            go (inr ordered) =
                let f = in_contains done t c in
                let same = kept t (apart_from t f) f in inr (ap sorted same ∙ ordered ∙ sym same)

    -- with this stream, one more is made
    pub derived_step : MadeUpTo net layout stores opened (take (i + 1) order) new more
    derived_step =
        subst (λ (d : List ℕ). MadeUpTo net layout stores opened d new more) (sym (take_more order i 0 lt)) (record {
          fits = subst (λ (m : ℕ). DraftFits m (length net) new) was.fits.made meets.fits;
          drawn = subst (λ (seen : Streams). Drawn net (held stores) seen new) step drawn;
          paired = subst (λ (seen : Streams). Paired net (held stores) seen more) step (paired_comes net (held stores) seen s rows pairs more (unseen old.made) was.paired meets.lists);
          epoch = subst (IsEpoch net (done ++ s ∷ []) (held stores) (streams_of opened)) step grown;
          kinds = subst (HaveKinds layout.kinds) step kinds;
        })

    -- its pairs take out by no more tests than its tuples have
    pub derived_takes : pairs_work net (take (i + 1) order) stores opened new.made more ≤ pairs_work net done stores opened old.made pairs + sum_by (take_work net (held stores) s) (get_or old.made s [])
    derived_takes =
        let news = ap (λ (now : Streams). takes_work net now (held stores) more) (step ∙ ap (news_of opened new.made) (sym (take_more order i 0 lt))) in
        let grown = takes_grow net (held stores) later s rows pairs more (ap (λ b. cond b rows (seen s)) (is_itself s)) meets.lists in
        let before = takes_agree net (held stores) later seen pairs (All-weaker IsSound (λ p. tuple_of later p ≡ tuple_of seen p) each pairs was.paired.sound) in
        let mine = sum_by-IsPermutation (take_work net (held stores) s) rows (get_or old.made s []) meets.same in omega (arith, news, grown, before, mine)
      where
        IsSound : Pair → Type 0
        IsSound p = Contains (waits_on net p.stream) p.state × (p.place < length (seen p.stream))

        each : (p : Pair) → IsSound p → tuple_of later p ≡ tuple_of seen p
        each p h = go (p.stream == s) refl
          where
            go : (b : Bool) → (p.stream == s) ≡ b → option_to_list (slice_get (cond b rows (seen p.stream)) p.place) ≡ option_to_list (slice_get (seen p.stream) p.place)
            go true e = absurd (let none = ap length (ap seen (same_number p.stream s e) ∙ unseen old.made) in let there = h.1 in omega (arith, none, there))
            go false e = refl

    -- what it leaves of the tests
    pub derived_rest : (tests : ℕ → TupleView → ℕ) → derived_tests tests net (drop i order) (held stores) (news_of opened old.made done)
        ≡ sum_by (tests s) (get_or old.made s []) + derived_tests tests net (drop (i + 1) order) (held stores) (news_of opened new.made (take (i + 1) order))
    derived_rest tests =
        let mine = sym (sum_by-IsPermutation (tests s) rows (get_or old.made s []) meets.same) in
        let rest = ap (derived_tests tests net (drop (i + 1) order) (held stores)) (step ∙ ap (news_of opened new.made) (sym (take_more order i 0 lt))) in
        ap (λ (ns : List ℕ). derived_tests tests net ns (held stores) seen) next_first ∙ derived_first tests net (held stores) s (drop (i + 1) order) seen rows published_rows ∙ (λ k. mine k + rest k)
