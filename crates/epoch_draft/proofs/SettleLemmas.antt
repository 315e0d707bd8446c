-- What the second half of a closing does to the stores.
use Rattle.std.proofs.Common.{◌≡◌, ◌∙◌, sym, ap, refl, subst, inl, inr, ℕ, zero, suc, ◌+◌, ◌<◌, ◌≤◌, ◌==◌, ◌⊎◌, not, ◌&&◌, Bool, true, false, cond, IsTrue, length, get_or, set, take, List, [], ◌∷◌, ◌++◌, arith}
use Rattle.std.specs.Prelude.{Contains, Option, Some, None, option_to_list, slice_get, sum_by}
use Rattle.std.specs.Option.{option_map}
use Rattle.std.specs.List.{All, filter, flat_map, range_with_len}
use Rattle.std.specs.List.Sorted.{IsPermutation}
use Rattle.std.proofs.lemmas.Bool.Decides.{nat_tests}
use Rattle.std.proofs.lemmas.Grind.{flat_map-append, get_or-set_at}
use Rattle.std.proofs.lemmas.List.{append-nil, get_or-set_other, length-set, take_more}
use Rattle.std.proofs.lemmas.List.Elements.{All-contains, All-contains_itself, All-cons, All-filter, All-get_or, All-head, All-nil, All-tail, All-weaker, Contains-append_cases, Contains-append_left, Contains-append_right, Contains-push, Contains-push_cases, filter-append}
use Rattle.std.proofs.lemmas.List.Sums.{sum_by-cons, sum_by_more}
use Rattle.std.proofs.lemmas.List.FromFn.{get_or-range_with_len, length-range_with_len}
use Rattle.std.proofs.lemmas.List.Sorted.{IsPermutation-append_left, IsPermutation-middle, IsPermutation-sym, IsPermutation-trans}
use Rattle.std.proofs.lemmas.Option.{get_or_from_slice_get, slice_get-get_or, slice_get_within}
use Rattle.event_types.specs.declared.kind.Kind.{Kind}
use Rattle.event_types.specs.Tuple.{TupleView}
use Rattle.instances.specs.Alive.{is_alive}
use Rattle.instances.specs.Bounds.{alive_instances}
use Rattle.instances.specs.Keys.{candidates_of}
use Rattle.binding_index.specs.KeyParts.{first_key}
use Rattle.binding_index.specs.Leads.{ready_in}
use Rattle.binding_index.specs.Stores.{instances_of}
use Rattle.binding_index.specs.declared.store.Store.{Store}
use Rattle.instances.specs.declared.instance.Instance.{Instance}
use Rattle.semantics.specs.Denotation.{Streams}
use Rattle.semantics.specs.Nexts.{is_eligible}
use Rattle.semantics.specs.Scalars.{Pr}
use Rattle.semantics.proofs.ReportLemmas.{filter_all}
use Rattle.scalar_expr.proofs.Bags.{filter_permuted, permuted_from, permuted_to}
use Rattle.scalar_expr.specs.Fits.{AllFit}
use Rattle.automaton.specs.States.{Net, is_used, tells, wait_at}
use Rattle.automaton.specs.Waiting.{is_empty}
use Rattle.automaton.specs.Work.{is_in}
use Rattle.automaton.specs.declared.layout.Layout.{Layout}
use Rattle.automaton.specs.declared.network.Entrance.TheVariants.{Waiting}
use Rattle.automaton.specs.declared.wait.Wait.{Wait}
use Rattle.stream_readers.specs.Finding.{is_wait_on, waits_on}
use Rattle.epoch_laws.specs.Closing.{Stores, stores_after}
use Rattle.epoch_laws.specs.Epochs.{is_unmet, unmatched_after}
use Rattle.epoch_laws.proofs.Bags.{permuted_is}
use Rattle.epoch_laws.proofs.Lists.{filter-filter, filter_alike, filter_false}
use Rattle.std.proofs.lemmas.List.Elements.{filter_agree}
use Rattle.event_types.proofs.NumberLemmas.{same_number}
use Rattle.automaton.proofs.NumberLemmas.{are_same_or_not}
use Rattle.epoch_draft.specs.Deriving.{CanDraw, DrawnUpTo, news_of}
use Rattle.epoch_draft.specs.Candidates.{candidates_at, candidates_by}
use Rattle.epoch_draft.specs.Held.{held, instances_in, shape_for, shape_of}
use Rattle.epoch_draft.specs.Meeting.{MatchesNone, pair_of}
use Rattle.epoch_draft.specs.Purging.{alive_in}
use Rattle.epoch_draft.specs.Readying.{HaveRoom, HaveRoomIn}
use Rattle.epoch_draft.specs.Settling.{AreClosed, AreLinked, AreSettled, AreTaken, IsTakenAt, PairSuits, first_of, listed_tuples, tuples_in}
use Rattle.epoch_draft.specs.Takes.{tuple_of, takes_work}
use Rattle.epoch_draft.specs.Suits.{MeetingSuits, TupleSuits, WaitSuits}
use Rattle.epoch_draft.specs.Typed.{IsTyped}
use Rattle.epoch_draft.specs.Watching.{ArePurgedEach}
use Rattle.epoch_draft.specs.declared.draft.Draft.{Draft}
use Rattle.epoch_draft.specs.declared.draft.Pair.{Pair}
use Rattle.epoch_draft.proofs.DeriveLemmas.{contains_in, rows_suit}
use Rattle.epoch_draft.proofs.DrawnLemmas.{drawn_is_after, entry_below}
use Rattle.epoch_draft.proofs.KeyLemmas.{candidates_fewer}
use Rattle.epoch_draft.proofs.Lists.{contains_more, contains_or_not, contains_this, more_contains, some_is, none_in}
use Rattle.epoch_draft.proofs.MeetLemmas.{waits_used}
use Rattle.epoch_draft.proofs.Moves.{is_itself}
use Rattle.epoch_draft.proofs.PurgeLemmas.{shapes_same, shapes_set, shapes_trans}
use Rattle.epoch_draft.proofs.StateLemmas.{AtWait, at_wait, wait_entry, wait_typed}
use Rattle.epoch_draft.proofs.StoreLemmas.{condition_is, none_is, typed_has}

other_test : (m n : ℕ) → (m ≡ n → ⊥) → (m == n) ≡ false
other_test m n ne = grind (arith, nat_tests)

-- no pair takes anything out
pub taken_none : (net : Net) (news : Streams) (stores : List (Option Store)) → AreTaken net news [] stores stores
taken_none net news stores = record {
  same = shapes_same stores;
  taken = λ n w at. sym (filter_all (λ (i : Instance). is_unmet w.choose [] i.tuple) (held stores n) (λ _ _ _. refl));
  none = λ n at. refl;
  ready = λ n. refl;
}

empty-append : (xs : List TupleView) (b : Bool) (x : TupleView) → is_empty (xs ++ cond b (x ∷ []) []) ≡ (is_empty xs && not b)
empty-append [] true x = refl
empty-append [] false x = refl
empty-append (y ∷ xs) b x = refl

-- one more tuple takes out those for which it is eligible
left_push : (choose : List Pr) (rows : List TupleView) (t : TupleView) (store : List Instance) → filter (λ (n : Instance). not (is_eligible choose n.tuple t)) (unmatched_after choose rows store) ≡ unmatched_after choose (rows ++ t ∷ []) store
left_push choose rows t store =
    filter-filter (λ (n : Instance). not (is_eligible choose n.tuple t)) (λ (n : Instance). is_unmet choose rows n.tuple) store
    ∙ filter_agree (λ (n : Instance). is_unmet choose rows n.tuple && not (is_eligible choose n.tuple t)) (λ (n : Instance). is_unmet choose (rows ++ t ∷ []) n.tuple) each store
  where
    each : (n : Instance) → (is_unmet choose rows n.tuple && not (is_eligible choose n.tuple t)) ≡ is_unmet choose (rows ++ t ∷ []) n.tuple
    each n = let p = is_eligible choose n.tuple in sym (ap is_empty (filter-append p rows (t ∷ [])) ∙ empty-append (filter p rows) (p t) t)

-- one more pair
pub taken_more : (net : Net) (news : Streams) (pairs : List Pair) (i : ℕ) (d : Pair) (t : TupleView) (old mid new : List (Option Store)) → i < length pairs → slice_get (news (get_or pairs i d).stream) (get_or pairs i d).place ≡ Some t
    → AreTaken net news (take i pairs) old mid → IsTakenAt net t (get_or pairs i d).state mid new → AreTaken net news (take (i + 1) pairs) old new
taken_more net news pairs i d t old mid new lt got was one = record {
  same = shapes_trans old mid new was.same one.same;
  taken = λ n w at. waits n w at (are_same_or_not n p.state);
  none = λ n at. others n at (are_same_or_not n p.state);
  ready = λ n. one.ready n ∙ was.ready n;
}
  where
    p : Pair
    p = get_or pairs i d

    rows : (n : ℕ) → listed_tuples news (take (i + 1) pairs) n ≡ listed_tuples news (take i pairs) n ++ cond (p.state == n) (tuple_of news p) []
    rows n =
        ap (λ ps. listed_tuples news ps n) (take_more pairs i d lt) ∙ flat_map-append (λ (q : Pair). cond (q.state == n) (tuple_of news q) []) (take i pairs) (p ∷ [])
        ∙ ap (λ rs. listed_tuples news (take i pairs) n ++ rs) (append-nil (cond (p.state == n) (tuple_of news p) []))

    waits : (n : ℕ) (w : Wait) → wait_at net n ≡ Some w → (n ≡ p.state) ⊎ (n ≡ p.state → ⊥) → held new n ≡ unmatched_after w.choose (listed_tuples news (take (i + 1) pairs) n) (held old n)
    waits n w at (inl same) =
        let mine : listed_tuples news (take (i + 1) pairs) n ≡ listed_tuples news (take i pairs) n ++ t ∷ [] =
        rows n ∙ ap (λ b. listed_tuples news (take i pairs) n ++ cond b (tuple_of news p) []) (ap (λ k. k == n) (sym same) ∙ is_itself n) ∙ ap (λ (o : Option TupleView). listed_tuples news (take i pairs) n ++ option_to_list o) got in
        let here : held new n ≡ filter (λ (k : Instance). not (is_eligible w.choose k.tuple t)) (held mid n) =
        ap (held new) same ∙ one.taken w (ap (wait_at net) (sym same) ∙ at) ∙ ap (λ k. filter (λ (k : Instance). not (is_eligible w.choose k.tuple t)) (held mid k)) (sym same) in
        here ∙ ap (filter (λ (k : Instance). not (is_eligible w.choose k.tuple t))) (was.taken n w at) ∙ left_push w.choose (listed_tuples news (take i pairs) n) t (held old n)
        ∙ ap (λ rs. unmatched_after w.choose rs (held old n)) (sym mine)
    waits n w at (inr other) =
        let mine : listed_tuples news (take (i + 1) pairs) n ≡ listed_tuples news (take i pairs) n =
        rows n ∙ ap (λ b. listed_tuples news (take i pairs) n ++ cond b (tuple_of news p) []) (other_test p.state n (λ e. other (sym e))) ∙ append-nil (listed_tuples news (take i pairs) n) in
        one.others n other ∙ was.taken n w at ∙ ap (λ rs. unmatched_after w.choose rs (held old n)) (sym mine)

    others : (n : ℕ) → wait_at net n ≡ None → (n ≡ p.state) ⊎ (n ≡ p.state → ⊥) → held new n ≡ held old n
    others n at (inl same) = ap (held new) same ∙ one.none (ap (wait_at net) (sym same) ∙ at) ∙ ap (held mid) (sym same) ∙ was.none n at
    others n at (inr other) = one.others n other ∙ was.none n at

-- one store was written over by what is left of it
pub taken_there : (net : Net) (t : TupleView) (n : ℕ) (w : Wait) (stores : List (Option Store)) (slot : Option Store) → n < length stores → wait_at net n ≡ Some w → instances_in slot ≡ filter (λ (k : Instance). not (is_eligible w.choose k.tuple t)) (held stores n)
    → shape_of slot ≡ shape_of (get_or stores n None) → ready_in slot ≡ ready_in (get_or stores n None) → IsTakenAt net t n stores (set stores n slot)
taken_there net t n w stores slot below at is shape ready = record {
  same = shapes_set stores n slot below shape;
  taken = λ x e. ap instances_in here ∙ is ∙ ap (λ choose. filter (λ (k : Instance). not (is_eligible choose k.tuple t)) (held stores n)) (ap (λ (x : Wait). x.choose) (some_is w x (sym at ∙ e)));
  none = λ e. absurd (let no : Some w ≡ None = sym at ∙ e in cc);
  others = λ m other. ap instances_in (get_or-set_other stores n m slot None other);
  ready = λ m. all m (are_same_or_not m n);
}
  where
    here : get_or (set stores n slot) n None ≡ slot
    here = get_or-set_at stores n n slot None refl below

    all : (m : ℕ) → (m ≡ n) ⊎ (m ≡ n → ⊥) → ready_in (get_or (set stores n slot) m None) ≡ ready_in (get_or stores m None)
    all m (inl same) = ap ready_in (get_or-set_at stores n m slot None same below) ∙ ready ∙ ap (λ k. ready_in (get_or stores k None)) (sym same)
    all m (inr other) = ap ready_in (get_or-set_other stores n m slot None other)

-- what is left still fits
pub taken_fits : (net : Net) (news : Streams) (streams : ℕ) (pairs done : List Pair) (p : Pair) (old mid : List (Option Store)) → AreTaken net news done old mid → PairSuits net news streams (held old) p → (t : TupleView) → slice_get (news p.stream) p.place ≡ Some t
    → (w : Wait) → wait_at net p.state ≡ Some w → All (λ (k : Instance). AllFit w.choose t (Some k.tuple)) (held mid p.state)
taken_fits net news streams pairs done p old mid was suits t got w at =
    subst (All (λ (k : Instance). AllFit w.choose t (Some k.tuple))) (sym (was.taken p.state w at))
    (All-filter (λ (k : Instance). is_unmet w.choose (listed_tuples news done p.state) k.tuple) (λ (k : Instance). AllFit w.choose t (Some k.tuple)) (held old p.state) (suits.fits w t at got))

-- the tuples of a stream that has some
pub in_is_news : (net : Net) (layout : Layout) (stores : List (Option Store)) (opened made : List (List TupleView)) → CanDraw net layout stores opened → (s k : ℕ) → k < length (news_of opened made layout.order s) → tuples_in opened made s ≡ news_of opened made layout.order s
in_is_news net layout stores opened made can s k lt = go (is_in layout.order s) refl lt
  where
    some : (ts rest : List TupleView) → k < length ts → first_of ts rest ≡ ts
    some [] rest lt = absurd (omega arith)
    some (t ∷ ts) rest lt = refl

    go : (b : Bool) → is_in layout.order s ≡ b → k < length (cond b (get_or made s []) (get_or opened s [])) → tuples_in opened made s ≡ cond b (get_or made s []) (get_or opened s [])
    go true e lt = ap (λ (ts : List TupleView). first_of ts (get_or made s [])) (All-contains (λ s. get_or opened s [] ≡ []) layout.order s can.underived (contains_in layout.order s e))
    go false e lt = some (get_or opened s []) (get_or made s []) lt

told : (s : ℕ) (o : Option ℕ) → tells s o ≡ true → o ≡ Some s
told s None e = absurd (cc)
told s (Some t) e = ap Some (same_number t s e)

contains_passes : {X : Type 0} (p : X → Bool) (xs : List X) (x : X) → Contains (filter p xs) x → p x ≡ true
contains_passes p [] x c = absurd (none_in x c)
contains_passes {X} p (y ∷ xs) x c = go (p y) refl c (contains_passes p xs x)
  where
    first : p y ≡ true → Contains [] x ⊎ (y ≡ x) → p x ≡ true
    first e (inl c) = absurd (none_in x c)
    first e (inr same) = ap p (sym same) ∙ e

    either : p y ≡ true → (Contains (filter p xs) x → p x ≡ true) → Contains (y ∷ []) x ⊎ Contains (filter p xs) x → p x ≡ true
    either e rest (inl c) = first e (Contains-push_cases [] y x c)
    either e rest (inr c) = rest c

    go : (b : Bool) → p y ≡ b → Contains (cond b (y ∷ filter p xs) (filter p xs)) x → (Contains (filter p xs) x → p x ≡ true) → p x ≡ true
    go true e c rest = either e rest (Contains-append_cases (y ∷ []) (filter p xs) x c)
    go false e c rest = rest c

contains_filter : {X : Type 0} (p : X → Bool) (xs : List X) (x : X) → p x ≡ true → Contains xs x → Contains (filter p xs) x
contains_filter p [] x e c = c
contains_filter {X} p (y ∷ xs) x e c = go (p y) refl (Contains-append_cases (y ∷ []) xs x c) (contains_filter p xs x e)
  where
    first : (b : Bool) → p y ≡ b → Contains [] x ⊎ (y ≡ x) → Contains (cond b (y ∷ filter p xs) (filter p xs)) x
    first b is (inl c) = absurd (none_in x c)
    first true is (inr same) = subst (Contains (y ∷ filter p xs)) same (Contains-append_left (y ∷ []) (filter p xs) y (Contains-push [] y))
    first false is (inr same) = absurd (let no : false ≡ true = sym is ∙ ap p same ∙ e in cc)

    put : (b : Bool) → Contains (filter p xs) x → Contains (cond b (y ∷ filter p xs) (filter p xs)) x
    put true c = Contains-append_right (y ∷ []) (filter p xs) x c
    put false c = c

    go : (b : Bool) → p y ≡ b → Contains (y ∷ []) x ⊎ Contains xs x → (Contains xs x → Contains (filter p xs) x) → Contains (cond b (y ∷ filter p xs) (filter p xs)) x
    go b is (inl c) rest = first b is (Contains-push_cases [] y x c)
    go b is (inr c) rest = put b (rest c)

contains_at : {X : Type 0} (xs : List X) (k : ℕ) (x : X) → slice_get xs k ≡ Some x → Contains xs x
contains_at [] k x e = absurd (cc)
contains_at (y ∷ xs) zero x e = subst (Contains (y ∷ xs)) (some_is y x e) (Contains-append_left (y ∷ []) xs y (Contains-push [] y))
contains_at (y ∷ xs) (suc k) x e = Contains-append_right (y ∷ []) xs x (contains_at xs k x e)

slice_get_range : (n k : ℕ) → k < n → Contains (range_with_len 0 n) k
slice_get_range n k lt =
    let within : k < length (range_with_len 0 n) = let e = length-range_with_len 0 n in omega (arith, e) in
    let is : get_or (range_with_len 0 n) k 0 ≡ k = get_or-range_with_len 0 n k 0 lt ∙ (let e : 0 + k ≡ k = omega arith in e) in
    subst (Contains (range_with_len 0 n)) is (contains_at (range_with_len 0 n) k (get_or (range_with_len 0 n) k 0) (slice_get-get_or (range_with_len 0 n) k 0 within))

contains_flat : {X Y : Type 0} (f : X → List Y) (xs : List X) (x : X) (y : Y) → Contains xs x → Contains (f x) y → Contains (flat_map f xs) y
contains_flat f [] x y c h = absurd (none_in x c)
contains_flat {X} {Y} f (z ∷ xs) x y c h = go (Contains-append_cases (z ∷ []) xs x c) (λ c. contains_flat f xs x y c h)
  where
    first : Contains [] x ⊎ (z ≡ x) → Contains (f z ++ flat_map f xs) y
    first (inl c) = absurd (none_in x c)
    first (inr same) = Contains-append_left (f z) (flat_map f xs) y (subst (λ w. Contains (f w) y) (sym same) h)

    go : Contains (z ∷ []) x ⊎ Contains xs x → (Contains xs x → Contains (flat_map f xs) y) → Contains (f z ++ flat_map f xs) y
    go (inl c) rest = first (Contains-push_cases [] z x c)
    go (inr c) rest = Contains-append_right (f z) (flat_map f xs) y (rest c)

all_flat_at : {X Y : Type 0} (P : Y → Type 0) (f : X → List Y) (xs : List X) → All (λ x. All P (f x)) xs → All P (flat_map f xs)
all_flat_at P f [] all = All-nil P
all_flat_at P f (x ∷ xs) all = both (f x) (All-head (λ x. All P (f x)) x xs all) (all_flat_at P f xs (All-tail (λ x. All P (f x)) x xs all))
  where
    both : (ys : List _) → All P ys → All P (flat_map f xs) → All P (ys ++ flat_map f xs)
    both [] one rest = rest
    both (y ∷ ys) one rest = All-cons P y (ys ++ flat_map f xs) (All-head P y ys one) (both ys (All-tail P y ys one) rest)

module _ (p : TupleView → Bool) where
  empty_all : (xs : List TupleView) → is_empty (filter p xs) ≡ true → All (λ x. p x ≡ false) xs
  empty_all [] e = All-nil (λ x. p x ≡ false)
  empty_all (x ∷ xs) e = go (p x) refl e (empty_all xs)
    where
      go : (b : Bool) → p x ≡ b → is_empty (cond b (x ∷ filter p xs) (filter p xs)) ≡ true → (is_empty (filter p xs) ≡ true → All (λ x. p x ≡ false) xs) → All (λ x. p x ≡ false) (x ∷ xs)
      go true is e rest = absurd (cc)
      go false is e rest = All-cons (λ x. p x ≡ false) x xs is (rest e)

  all_empty : (xs : List TupleView) → All (λ x. p x ≡ false) xs → is_empty (filter p xs) ≡ true
  all_empty xs all = ap is_empty (filter_false p xs all)

  -- the tests meet the same
  same_empty : (xs ys : List TupleView) → All (Contains ys) xs → All (λ y. Contains xs y ⊎ (p y ≡ false)) ys → is_empty (filter p xs) ≡ is_empty (filter p ys)
  same_empty xs ys there back = go (is_empty (filter p xs)) (is_empty (filter p ys)) refl refl
    where
      mine : All (λ x. p x ≡ false) xs → (y : TupleView) → Contains xs y ⊎ (p y ≡ false) → p y ≡ false
      mine all y (inl c) = All-contains (λ x. p x ≡ false) xs y all c
      mine all y (inr e) = e

      go : (a b : Bool) → is_empty (filter p xs) ≡ a → is_empty (filter p ys) ≡ b → a ≡ b
      go true true e f = refl
      go false false e f = refl
      go true false e f =
          absurd (let yes = all_empty ys (All-weaker (λ y. Contains xs y ⊎ (p y ≡ false)) (λ y. p y ≡ false) (mine (empty_all xs e)) ys back) in let no : true ≡ false = sym yes ∙ f in cc)
      go false true e f =
          absurd (let yes = all_empty xs (All-weaker (Contains ys) (λ x. p x ≡ false) (λ x c. All-contains (λ y. p y ≡ false) ys x (empty_all ys f) c) xs there) in let no : true ≡ false = sym yes ∙ e in cc)

left_same : (choose : List Pr) (xs ys : List TupleView) (store : List Instance) → All (Contains ys) xs → All (λ (i : Instance). All (λ y. Contains xs y ⊎ (is_eligible choose i.tuple y ≡ false)) ys) store → unmatched_after choose xs store ≡ unmatched_after choose ys store
left_same choose xs ys store there back =
    filter_alike (λ (n : Instance). is_unmet choose xs n.tuple) (λ (n : Instance). is_unmet choose ys n.tuple) store
    (All-weaker (λ (i : Instance). All (λ y. Contains xs y ⊎ (is_eligible choose i.tuple y ≡ false)) ys) (λ (n : Instance). is_unmet choose xs n.tuple ≡ is_unmet choose ys n.tuple) (λ n each. same_empty (is_eligible choose n.tuple) xs ys there each) store back)

module _ (net : Net) (layout : Layout) (stores : List (Option Store)) (opened : List (List TupleView)) (draft : Draft) (pairs : List Pair) (can : CanDraw net layout stores opened) (drawn : DrawnUpTo net layout stores opened layout.order draft pairs) where
  abbrev news : Streams
  news = news_of opened draft.made layout.order

  abbrev listed : Streams
  listed = tuples_in opened draft.made

  wait_of : (s n : ℕ) → Contains (waits_on net s) n → (w : Wait) → wait_at net n ≡ Some w → w.stream ≡ s
  wait_of s n c w at =
      let e = contains_passes (is_wait_on net s) (range_with_len 0 (length net)) n c in
      some_is w.stream s (ap (option_map (λ (w : Wait). w.stream)) (sym at) ∙ told s (option_map (λ (w : Wait). w.stream) (wait_at net n)) e)

  listed_wait : (n : ℕ) (w : Wait) → wait_at net n ≡ Some w → Contains (waits_on net w.stream) n
  listed_wait n w at =
      contains_filter (is_wait_on net w.stream) (range_with_len 0 (length net)) n (ap (λ (o : Option Wait). tells w.stream (option_map (λ (w : Wait). w.stream) o)) at ∙ is_itself w.stream)
      (slice_get_range (length net) n (let found = at_wait net n w at in entry_below net n (Waiting found.before found.hop) (wait_entry net n w found)))

  -- the pairs may take out
  pub pairs_suit : All (PairSuits net listed (length opened) (held stores)) pairs
  pairs_suit = All-weaker (λ (p : Pair). Contains (waits_on net p.stream) p.state × (p.place < length (news p.stream))) (PairSuits net listed (length opened) (held stores)) one pairs drawn.paired.sound
    where
      one : (p : Pair) → Contains (waits_on net p.stream) p.state × (p.place < length (news p.stream)) → PairSuits net listed (length opened) (held stores) p
      one p h =
          let is = in_is_news net layout stores opened draft.made can p.stream p.place h.1 in
          let used : IsTrue (is_used net p.state) = All-contains (λ n. IsTrue (is_used net n)) (waits_on net p.stream) p.state (waits_used net p.stream) h.0 in
          let below = below_kinds p h.0 (wait_at net p.state) refl in
          record {
            used = used;
            stream = omega (arith, below, can.as_many);
            place = subst (λ (ts : List TupleView). p.place < length ts) (sym is) h.1;
            fits = λ w t at got.
                let mine = suited p h t (ap (λ (ts : List TupleView). slice_get ts p.place) (sym is) ∙ got) in
                All-weaker (λ (k : Instance). WaitSuits w k.tuple t) (λ (k : Instance). AllFit w.choose t (Some k.tuple)) (λ k h. h.0) (held stores p.state)
                (All-contains (MeetingSuits net (held stores) t) (waits_on net p.stream) p.state mine.waits h.0 w at).instances;
            key = λ w t at got. (All-contains (MeetingSuits net (held stores) t) (waits_on net p.stream) p.state (suited p h t (ap (λ (ts : List TupleView). slice_get ts p.place) (sym is) ∙ got)).waits h.0 w at).key;
          }
        where
          below_kinds : (p : Pair) → Contains (waits_on net p.stream) p.state → (o : Option Wait) → wait_at net p.state ≡ o → p.stream < length layout.kinds
          below_kinds p c None at =
              absurd (let e = contains_passes (is_wait_on net p.stream) (range_with_len 0 (length net)) p.state c in
              let no : false ≡ true = sym (ap (λ (o : Option Wait). tells p.stream (option_map (λ (w : Wait). w.stream) o)) at) ∙ e in cc)
          below_kinds p c (Some w) at =
              let typed = wait_typed layout.kinds net can.typed.kinding can.typed.states p.state w at in
              subst (λ (s : ℕ). s < length layout.kinds) (wait_of p.stream p.state c w at) (slice_get_within layout.kinds w.stream typed.event typed.known)

          suited : (p : Pair) → Contains (waits_on net p.stream) p.state × (p.place < length (news p.stream)) → (t : TupleView) → slice_get (news p.stream) p.place ≡ Some t → TupleSuits net (held stores) p.stream t
          suited p h t got =
              subst (TupleSuits net (held stores) p.stream) (get_or_from_slice_get (news p.stream) p.place t t got)
              (All-get_or (TupleSuits net (held stores) p.stream) (news p.stream) p.place t h.1
              (rows_suit net can.network layout.kinds stores can.typed p.stream (below_kinds p h.0 (wait_at net p.state) refl) (news p.stream) (drawn.kinds p.stream)))

  -- the states of the pairs are there
  pub pairs_below : All (λ (p : Pair). p.state < length net) pairs
  pairs_below = All-weaker (λ (p : Pair). Contains (waits_on net p.stream) p.state × (p.place < length (news p.stream))) (λ (p : Pair). p.state < length net) one pairs drawn.paired.sound
    where
      one : (p : Pair) → Contains (waits_on net p.stream) p.state × (p.place < length (news p.stream)) → p.state < length net
      one p h = go (wait_at net p.state) refl (contains_passes (is_wait_on net p.stream) (range_with_len 0 (length net)) p.state h.0)
        where
          go : (o : Option Wait) → wait_at net p.state ≡ o → tells p.stream (option_map (λ (w : Wait). w.stream) o) ≡ true → p.state < length net
          go None at e = absurd (cc)
          go (Some w) at e = let found = at_wait net p.state w at in entry_below net p.state (Waiting found.before found.hop) (wait_entry net p.state w found)

  -- the pairs' tuples are the epoch's, so the tests are as many
  pub takes_same : takes_work net listed (held stores) pairs ≡ takes_work net news (held stores) pairs
  takes_same = go pairs drawn.paired.sound
    where
      Sound : Pair → Type 0
      Sound p = Contains (waits_on net p.stream) p.state × (p.place < length (news p.stream))

      work : Streams → Pair → ℕ
      work seen p = sum_by (λ (t : TupleView). length (candidates_at net (held stores) t p.state)) (tuple_of seen p)

      one : (p : Pair) → Sound p → work listed p ≡ work news p
      one p h =
          ap (λ (ts : List TupleView). sum_by (λ (t : TupleView). length (candidates_at net (held stores) t p.state)) (option_to_list (slice_get ts p.place))) (in_is_news net layout stores opened draft.made can p.stream p.place h.1)

      go : (ps : List Pair) → All Sound ps → sum_by (work listed) ps ≡ sum_by (work news) ps
      go [] all = refl
      go (p ∷ ps) all =
          let here = one p (All-head Sound p ps all) in
          let rest = go ps (All-tail Sound p ps all) in
          sum_by-cons (work listed) p ps ∙ (λ k. here k + rest k) ∙ sym (sum_by-cons (work news) p ps)

  -- what the listed tuples leave is what all leave
  pub left_all_same : (n : ℕ) (w : Wait) → wait_at net n ≡ Some w → unmatched_after w.choose (listed_tuples listed pairs n) (held stores n) ≡ unmatched_after w.choose (news w.stream) (held stores n)
  left_all_same n w at = left_same w.choose (listed_tuples listed pairs n) (news w.stream) (held stores n) there back
    where
      there : All (Contains (news w.stream)) (listed_tuples listed pairs n)
      there =
          all_flat_at (Contains (news w.stream)) (λ (p : Pair). cond (p.state == n) (tuple_of listed p) []) pairs
          (All-weaker (λ (p : Pair). Contains (waits_on net p.stream) p.state × (p.place < length (news p.stream))) (λ (p : Pair). All (Contains (news w.stream)) (cond (p.state == n) (tuple_of listed p) [])) one pairs drawn.paired.sound)
        where
          row : (o : Option TupleView) → ((t : TupleView) → o ≡ Some t → Contains (news w.stream) t) → All (Contains (news w.stream)) (option_to_list o)
          row None h = All-nil (Contains (news w.stream))
          row (Some t) h = All-cons (Contains (news w.stream)) t [] (h t refl) (All-nil (Contains (news w.stream)))

          one : (p : Pair) → Contains (waits_on net p.stream) p.state × (p.place < length (news p.stream)) → All (Contains (news w.stream)) (cond (p.state == n) (tuple_of listed p) [])
          one p h = go (p.state == n) refl
            where
              go : (b : Bool) → (p.state == n) ≡ b → All (Contains (news w.stream)) (cond b (tuple_of listed p) [])
              go true e =
                  let stream : w.stream ≡ p.stream = wait_of p.stream p.state h.0 w (ap (wait_at net) (same_number p.state n e) ∙ at) in
                  let is = in_is_news net layout stores opened draft.made can p.stream p.place h.1 in
                  row (slice_get (listed p.stream) p.place)
                  (λ t got. subst (λ (s : ℕ). Contains (news s) t) (sym stream) (contains_at (news p.stream) p.place t (ap (λ (ts : List TupleView). slice_get ts p.place) (sym is) ∙ got)))
              go false e = All-nil (Contains (news w.stream))

      listed_or : (i : Instance) → Contains (held stores n) i → All (λ y. Contains (listed_tuples listed pairs n) y ⊎ (is_eligible w.choose i.tuple y ≡ false)) (news w.stream)
      listed_or i here k d lt = go (get_or (news w.stream) k d) (slice_get-get_or (news w.stream) k d lt) (drawn.paired.listed w.stream k (get_or (news w.stream) k d) (slice_get-get_or (news w.stream) k d lt) n (listed_wait n w at))
        where
          go : (t : TupleView) → slice_get (news w.stream) k ≡ Some t → Contains pairs (pair_of w.stream k n) ⊎ MatchesNone net (held stores) t n → Contains (listed_tuples listed pairs n) t ⊎ (is_eligible w.choose i.tuple t ≡ false)
          go t got (inl c) =
              let is = in_is_news net layout stores opened draft.made can w.stream k lt in
              let mine : t ∷ [] ≡ cond (n == n) (tuple_of listed (pair_of w.stream k n)) [] =
              sym (ap (λ c. cond c (tuple_of listed (pair_of w.stream k n)) []) (is_itself n) ∙ ap (λ (o : Option TupleView). option_to_list o) (ap (λ (ts : List TupleView). slice_get ts k) is ∙ got)) in
              inl (contains_flat (λ (p : Pair). cond (p.state == n) (tuple_of listed p) []) pairs (pair_of w.stream k n) t c (subst (λ (ts : List TupleView). Contains ts t) mine (Contains-push [] t)))
          go t got (inr none) = inr (All-contains (λ (i : Instance). is_eligible w.choose i.tuple t ≡ false) (held stores n) i (none w at) here)

      back : All (λ (i : Instance). All (λ y. Contains (listed_tuples listed pairs n) y ⊎ (is_eligible w.choose i.tuple y ≡ false)) (news w.stream)) (held stores n)
      back = All-weaker (Contains (held stores n)) (λ (i : Instance). All (λ y. Contains (listed_tuples listed pairs n) y ⊎ (is_eligible w.choose i.tuple y ≡ false)) (news w.stream)) listed_or (held stores n) (All-contains_itself (held stores n))

  -- what is taken out and linked settles
  pub settled : (mid new : List (Option Store)) → AreTaken net listed pairs stores mid → AreLinked draft.reached.numbers draft.beads mid new → AreSettled net news stores new
  settled mid new taken linked = record {
    same = shapes_trans stores mid new taken.same linked.same;
    settled = λ n w at. waits n w at (contains_or_not draft.reached.numbers n) (drawn.fits.reached_all n);
    others = λ n at. ap instances_in (linked.idle n (drawn.drawn.unbound n at)) ∙ taken.none n at;
  }
    where
      slot : (n : ℕ) (w : Wait) → wait_at net n ≡ Some w → (o : Option Store) → get_or mid n None ≡ o → (store : Store) × (get_or mid n None ≡ Some store)
      slot n w at None e = let no : None ≡ Some (shape_for w.choose) = sym (ap shape_of e) ∙ taken.same.shapes n ∙ (typed_has net layout.kinds stores can.typed).shapes n w at in absurd (cc)
      slot n w at (Some store) e = (store, e)

      waits : (n : ℕ) (w : Wait) → wait_at net n ≡ Some w → Contains draft.reached.numbers n ⊎ (Contains draft.reached.numbers n → ⊥) → (get_or draft.beads n [] ≡ []) ⊎ Contains draft.reached.numbers n → IsPermutation (held new n) (stores_after net news (held stores) n)
      waits n w at here empty = IsPermutation-trans _ _ _ (put here empty) after
        where
          found : AtWait net n w
          found = at_wait net n w at

          after : IsPermutation (unmatched_after w.choose (news w.stream) (held stores n) ++ get_or draft.beads n []) (stores_after net news (held stores) n)
          after =
              permuted_from (ap (λ (x : Wait). unmatched_after x.choose (news x.stream) (held stores n) ++ get_or draft.beads n []) (sym found.same))
              (drawn_is_after net (held stores) news draft drawn.drawn n found.before found.hop (wait_entry net n w found))

          left_is : held mid n ≡ unmatched_after w.choose (news w.stream) (held stores n)
          left_is = taken.taken n w at ∙ left_all_same n w at

          put : Contains draft.reached.numbers n ⊎ (Contains draft.reached.numbers n → ⊥) → (get_or draft.beads n [] ≡ []) ⊎ Contains draft.reached.numbers n → IsPermutation (held new n) (unmatched_after w.choose (news w.stream) (held stores n) ++ get_or draft.beads n [])
          put (inl c) e =
              let store = slot n w at (get_or mid n None) refl in
              permuted_to (linked.linked n c store.0 store.1) (ap (λ (xs : List Instance). xs ++ get_or draft.beads n []) (sym (ap instances_in store.1) ∙ left_is))
          put (inr absent) (inl e) =
              permuted_is (ap instances_in (linked.others n absent) ∙ left_is ∙ sym (append-nil (unmatched_after w.choose (news w.stream) (held stores n))) ∙ ap (λ (xs : List Instance). unmatched_after w.choose (news w.stream) (held stores n) ++ xs) (sym e))
          put (inr absent) (inr c) = absurd (absent c)

-- one bead more is linked
pub link_more : (store rest all new chain : List Instance) (bead : Instance) → IsPermutation new (bead ∷ store) → chain ≡ bead ∷ rest → IsPermutation (store ++ chain) all → IsPermutation (new ++ rest) all
link_more store rest all new chain bead linked here was =
    IsPermutation-trans _ _ _ (IsPermutation-append_left rest new (bead ∷ store) linked)
    (IsPermutation-trans _ _ _ (IsPermutation-sym _ _ (IsPermutation-middle store bead rest)) (permuted_from (ap (λ (xs : List Instance). store ++ xs) (sym here)) was))

-- the beads of one state more are linked
pub record LinkedSoFar (numbers : List ℕ) (start beads : List (List Instance)) (old new : List (Option Store)) : Type 0 where
  pub linked : AreLinked numbers start old new
  pub as_many : length beads ≡ length start
  pub kept : (n : ℕ) → (Contains numbers n → ⊥) → get_or beads n [] ≡ get_or start n []

-- no state's beads are linked yet
pub linked_none : (beads : List (List Instance)) (stores : List (Option Store)) → LinkedSoFar [] beads beads stores stores
linked_none beads stores = record {
  linked = record { same = shapes_same stores; ready = λ n. refl; linked = λ n c. absurd (none_in n c); idle = λ n e. refl; others = λ n absent. refl };
  as_many = refl;
  kept = λ n absent. refl;
}

-- a state whose beads aren't linked yet still has room for them
pub linked_room : (numbers : List ℕ) (n : ℕ) (start beads : List (List Instance)) (old mid : List (Option Store)) (slot : Option Store) (chain : List Instance) → (Contains numbers n → ⊥) → slice_get mid n ≡ Some slot → slice_get beads n ≡ Some chain
    → LinkedSoFar numbers start beads old mid → HaveRoom old start → HaveRoomIn slot chain
linked_room numbers n start beads old mid slot chain once read got was room =
    let slot_is : get_or old n None ≡ slot = sym (was.linked.others n once) ∙ get_or_from_slice_get mid n slot None read in
    let chain_is : get_or start n [] ≡ chain = sym (was.kept n once) ∙ get_or_from_slice_get beads n chain [] got in
    subst (λ (o : Option Store). HaveRoomIn o chain) slot_is (subst (HaveRoomIn (get_or old n None)) chain_is (room n))

-- one state's more
pub linked_more : (numbers : List ℕ) (i : ℕ) (start beads : List (List Instance)) (old mid : List (Option Store)) (slot new : Option Store) (chain rest : List Instance) → i < length numbers → get_or numbers i 0 < length old → get_or numbers i 0 < length start
    → (Contains (take i numbers) (get_or numbers i 0) → ⊥) → slice_get mid (get_or numbers i 0) ≡ Some slot → slice_get beads (get_or numbers i 0) ≡ Some chain
    → ((store : Store) → slot ≡ Some store → IsPermutation (instances_in new) (instances_of store ++ chain)) → (chain ≡ [] → new ≡ slot) → shape_of new ≡ shape_of slot → ready_in new ≡ ready_in slot
    → LinkedSoFar (take i numbers) start beads old mid → LinkedSoFar (take (i + 1) numbers) start (set beads (get_or numbers i 0) rest) old (set mid (get_or numbers i 0) new)
linked_more numbers i start beads old mid slot new chain rest lt below below_beads once read got puts idle shape ready was = record {
  linked = record {
    same = record { as_many = length-set mid n new ∙ was.linked.same.as_many; shapes = λ m. shapes m (are_same_or_not m n) };
    ready = λ m. readies m (are_same_or_not m n);
    linked = λ m c store e. links m store e (more_contains numbers i 0 m lt c);
    idle = λ m e. idles m e (are_same_or_not m n);
    others = λ m absent. others m absent (are_same_or_not m n);
  };
  as_many = length-set beads n rest ∙ was.as_many;
  kept = λ m absent. kept m absent (are_same_or_not m n);
}
  where
    n : ℕ
    n = get_or numbers i 0

    here : n < length mid
    here = let e = was.linked.same.as_many in omega (arith, e, below)

    mid_is : get_or mid n None ≡ slot
    mid_is = get_or_from_slice_get mid n slot None read

    old_is : get_or old n None ≡ slot
    old_is = sym (was.linked.others n once) ∙ mid_is

    chain_is : chain ≡ get_or start n []
    chain_is = sym (get_or_from_slice_get beads n chain [] got) ∙ was.kept n once

    set_is : (m : ℕ) → m ≡ n → get_or (set mid n new) m None ≡ new
    set_is m same = get_or-set_at mid n m new None same here

    shapes : (m : ℕ) → (m ≡ n) ⊎ (m ≡ n → ⊥) → shape_of (get_or (set mid n new) m None) ≡ shape_of (get_or old m None)
    shapes m (inl same) = ap shape_of (set_is m same) ∙ shape ∙ ap shape_of (sym old_is) ∙ ap (λ k. shape_of (get_or old k None)) (sym same)
    shapes m (inr other) = ap shape_of (get_or-set_other mid n m new None other) ∙ was.linked.same.shapes m

    readies : (m : ℕ) → (m ≡ n) ⊎ (m ≡ n → ⊥) → ready_in (get_or (set mid n new) m None) ≡ ready_in (get_or old m None)
    readies m (inl same) = ap ready_in (set_is m same) ∙ ready ∙ ap ready_in (sym old_is) ∙ ap (λ k. ready_in (get_or old k None)) (sym same)
    readies m (inr other) = ap ready_in (get_or-set_other mid n m new None other) ∙ was.linked.ready m

    links : (m : ℕ) (store : Store) → get_or old m None ≡ Some store → Contains (take i numbers) m ⊎ (n ≡ m) → IsPermutation (held (set mid n new) m) (instances_of store ++ get_or start m [])
    links m store e (inl c) =
        permuted_from (ap instances_in (get_or-set_other mid n m new None (λ same. once (subst (Contains (take i numbers)) same c)))) (was.linked.linked m c store e)
    links m store e (inr same) =
        permuted_from (ap instances_in (set_is m (sym same)))
        (permuted_to (puts store (sym old_is ∙ ap (λ k. get_or old k None) same ∙ e)) (ap (λ (xs : List Instance). instances_of store ++ xs) (chain_is ∙ ap (λ k. get_or start k []) same)))

    idles : (m : ℕ) → get_or start m [] ≡ [] → (m ≡ n) ⊎ (m ≡ n → ⊥) → get_or (set mid n new) m None ≡ get_or old m None
    idles m e (inl same) = set_is m same ∙ idle (chain_is ∙ ap (λ k. get_or start k []) (sym same) ∙ e) ∙ sym old_is ∙ ap (λ k. get_or old k None) (sym same)
    idles m e (inr other) = get_or-set_other mid n m new None other ∙ was.linked.idle m e

    before : (m : ℕ) → Contains (take i numbers) m → Contains (take (i + 1) numbers) m
    before m c = contains_more numbers i 0 m lt c

    others : (m : ℕ) → (Contains (take (i + 1) numbers) m → ⊥) → (m ≡ n) ⊎ (m ≡ n → ⊥) → get_or (set mid n new) m None ≡ get_or old m None
    others m absent (inl same) = absurd (absent (subst (Contains (take (i + 1) numbers)) (sym same) (contains_this numbers i 0 lt)))
    others m absent (inr other) = get_or-set_other mid n m new None other ∙ was.linked.others m (λ c. absent (before m c))

    kept : (m : ℕ) → (Contains (take (i + 1) numbers) m → ⊥) → (m ≡ n) ⊎ (m ≡ n → ⊥) → get_or (set beads n rest) m [] ≡ get_or start m []
    kept m absent (inl same) = absurd (absent (subst (Contains (take (i + 1) numbers)) (sym same) (contains_this numbers i 0 lt)))
    kept m absent (inr other) = get_or-set_other beads n m rest [] other ∙ was.kept m (λ c. absent (before m c))

-- a list with an item is not empty
pub cons_none : (x : Instance) (xs : List Instance) → x ∷ xs ≡ [] → ⊥
cons_none x xs e = cc

-- what settled and was purged is closed
pub closed : (time : ℕ) (net : Net) (kinds : List (List Kind)) (old mid new : List (Option Store)) (news : Streams) → IsTyped net kinds old → AreSettled net news old mid → ArePurgedEach time mid new → AreClosed time net news old new
closed time net kinds old mid new news typed settled purged = record {
  same = shapes_trans old mid new settled.same purged.same;
  purged = λ n w at. waits n w at (get_or mid n None) refl;
  others = λ n at. let none = none_is (get_or mid n None) (settled.same.shapes n ∙ ap shape_of (typed.others n at)) in purged.purged n ∙ ap (alive_in time) none ∙ sym (ap instances_in none) ∙ settled.others n at;
}
  where
    shape : (n : ℕ) (w : Wait) → wait_at net n ≡ Some w → shape_of (get_or mid n None) ≡ Some (shape_for w.choose)
    shape n w at = settled.same.shapes n ∙ (typed_has net kinds old typed).shapes n w at

    waits : (n : ℕ) (w : Wait) → wait_at net n ≡ Some w → (o : Option Store) → get_or mid n None ≡ o → IsPermutation (held new n) (alive_instances time w.choose (stores_after net news (held old) n))
    waits n w at None e = absurd (let no : None ≡ Some (shape_for w.choose) = ap shape_of (sym e) ∙ shape n w at in cc)
    waits n w at (Some store) e =
        permuted_from (purged.purged n ∙ ap (alive_in time) e ∙ ap (λ choose. alive_instances time choose (instances_of store)) (condition_is store w.choose (ap shape_of (sym e) ∙ shape n w at)))
        (filter_permuted (λ (i : Instance). is_alive time w.choose i.tuple) (instances_of store) (stores_after net news (held old) n) (permuted_from (ap instances_in (sym e)) (settled.settled n w at)))

-- no more candidates are there than before
pub taken_fewer : (net : Net) (news : Streams) (pairs : List Pair) (old mid : List (Option Store)) → AreTaken net news pairs old mid → (n : ℕ) (t : TupleView) → length (candidates_at net (held mid) t n) ≤ length (candidates_at net (held old) t n)
taken_fewer net news pairs old mid was n t = go (wait_at net n) refl
  where
    go : (o : Option Wait) → wait_at net n ≡ o → length (candidates_by o (held mid n) t) ≤ length (candidates_by o (held old n) t)
    go None at = omega arith
    go (Some w) at =
        let left = λ (k : Instance). is_unmet w.choose (listed_tuples news pairs n) k.tuple in
        let e = ap (λ (is : List Instance). length (candidates_of (first_key w.choose) t is)) (was.taken n w at) in
        let le = candidates_fewer (first_key w.choose) t left (held old n) in omega (arith, e, le)

-- the tests of one pair more are those of its tuple
pub takes_more : (net : Net) (news : Streams) (stores : Stores) (pairs : List Pair) (i : ℕ) (d : Pair) (t : TupleView) → i < length pairs → slice_get (news (get_or pairs i d).stream) (get_or pairs i d).place ≡ Some t
    → takes_work net news stores (take (i + 1) pairs) ≡ takes_work net news stores (take i pairs) + length (candidates_at net stores t (get_or pairs i d).state)
takes_more net news stores pairs i d t lt got = sum_by_more work pairs i d lt ∙ ap (λ (n : ℕ). takes_work net news stores (take i pairs) + n) one
  where
    work : Pair → ℕ
    work p = sum_by (λ (t : TupleView). length (candidates_at net stores t p.state)) (tuple_of news p)

    count : TupleView → ℕ
    count t = length (candidates_at net stores t (get_or pairs i d).state)

    one : work (get_or pairs i d) ≡ count t
    one = ap (λ (o : Option TupleView). sum_by count (option_to_list o)) got ∙ sum_by-cons count t [] ∙ (let e : count t + 0 ≡ count t = omega arith in e)
