-- Waiting states that are listed with tuples.
use Rattle.std.proofs.Common.{◌≡◌, ◌∙◌, sym, ap, refl, subst, inl, inr, ℕ, zero, suc, ◌+◌, ◌<◌, ◌⊎◌, length, get_or, take, List, [], ◌∷◌, ◌++◌, map, append_assoc, arith}
use Rattle.std.specs.Prelude.{Contains, Some, slice_get}
use Rattle.std.proofs.lemmas.List.{length-append, length-take-le, take_more, append-nil}
use Rattle.std.proofs.lemmas.List.Elements.{All-append, All-contains, All-contains_itself, All-map, All-weaker, Contains-append_cases, Contains-append_left, Contains-append_right, Contains-push, Contains-push_cases, All-nil}
use Rattle.std.proofs.lemmas.List.Sorted.{Contains-permutation, IsPermutation-sym}
use Rattle.event_types.specs.Tuple.{TupleView}
use Rattle.automaton.specs.States.{Net}
use Rattle.stream_readers.specs.Finding.{waits_on}
use Rattle.epoch_laws.specs.Closing.{Stores}
use Rattle.epoch_draft.specs.Meeting.{IsPairOf, Lists, ListsAll, MatchesNone, pair_of}
use Rattle.epoch_draft.specs.declared.draft.Pair.{Pair}
use Rattle.epoch_draft.proofs.MeetLemmas.{found_all}
use Rattle.epoch_draft.proofs.Lists.{some_is}
use Rattle.epoch_draft.proofs.TakeLemmas.{takes_one}

-- what stands at a place of a list with one more item
pub slice_get_push : {X : Type 0} (xs : List X) (x : X) (k : ℕ) (y : X) → slice_get (xs ++ x ∷ []) k ≡ Some y → (slice_get xs k ≡ Some y) ⊎ ((k ≡ length xs) × (x ≡ y))
slice_get_push [] x zero y e = inr (refl, some_is x y e)
slice_get_push [] x (suc k) y e = absurd (cc)
slice_get_push (z ∷ xs) x zero y e = inl e
slice_get_push {X} (z ∷ xs) x (suc k) y e = go (slice_get_push xs x k y e)
  where
    go : (slice_get xs k ≡ Some y) ⊎ ((k ≡ length xs) × (x ≡ y)) → (slice_get xs k ≡ Some y) ⊎ ((suc k ≡ length (z ∷ xs)) × (x ≡ y))
    go (inl h) = inl h
    go (inr h) = let e = h.0 in inr (omega arith, h.1)

-- an item is there once all are mapped
pub contains_map : {X Y : Type 0} (f : X → Y) (xs : List X) (x : X) → Contains xs x → Contains (map f xs) (f x)
contains_map f [] x c = absurd (omega arith)
contains_map f (y ∷ xs) x c = go (Contains-append_cases (y ∷ []) xs x c) (contains_map f xs x)
  where
    first : Contains [] x ⊎ (y ≡ x) → Contains (map f (y ∷ xs)) (f x)
    first (inl none) = absurd (omega arith)
    first (inr same) = subst (λ z. Contains (map f (y ∷ xs)) (f z)) same (Contains-append_left (f y ∷ []) (map f xs) (f y) (Contains-push [] (f y)))

    go : Contains (y ∷ []) x ⊎ Contains xs x → (Contains xs x → Contains (map f xs) (f x)) → Contains (map f (y ∷ xs)) (f x)
    go (inl c) rest = first (Contains-push_cases [] y x c)
    go (inr c) rest = Contains-append_right (f y ∷ []) (map f xs) (f x) (rest c)

-- no tuple, no pair
pub lists_none : (net : Net) (stores : Stores) (s : ℕ) (pairs : List Pair) → ListsAll net stores s [] pairs pairs
lists_none net stores s pairs = record {
  added = [];
  are = sym (append-nil pairs);
  sound = All-nil (IsPairOf net s []);
  listed = λ k t e n c. absurd (cc);
  takes = omega arith;
}

-- one tuple more
pub lists_more : (net : Net) (stores : Stores) (s : ℕ) (rows : List TupleView) (i : ℕ) (d : TupleView) (old mid new : List Pair) → i < length rows → ListsAll net stores s (take i rows) old mid → Lists net stores s i (get_or rows i d) mid new → ListsAll net stores s (take (i + 1) rows) old new
lists_more net stores s rows i d old mid new lt all one = record {
  added = all.added ++ map (pair_of s i) one.found;
  are = one.are ∙ ap (λ ps. ps ++ map (pair_of s i) one.found) all.are ∙ append_assoc old all.added (map (pair_of s i) one.found);
  sound =
      All-append (IsPairOf net s (take (i + 1) rows)) all.added (map (pair_of s i) one.found)
      (All-weaker (IsPairOf net s (take i rows)) (IsPairOf net s (take (i + 1) rows)) (λ p h. record { stream_is = h.stream_is; waits = h.waits; below = let b = h.below in omega (arith, b, longer) }) all.added all.sound)
      (All-map (IsPairOf net s (take (i + 1) rows)) (pair_of s i) one.found
      (All-weaker (Contains (waits_on net s)) (λ n. IsPairOf net s (take (i + 1) rows) (pair_of s i n)) (λ n c. record { stream_is = refl; waits = c; below = omega (arith, longer, short) }) one.found
      (found_all (Contains (waits_on net s)) net stores s (get_or rows i d) one.found one.finds (All-contains_itself (waits_on net s)))));
  listed = λ k t e n c. at k t n c (slice_get_push (take i rows) (get_or rows i d) k t (ap (λ ts. slice_get ts k) (sym (take_more rows i d lt)) ∙ e));
  takes = takes_one net stores s rows i d all.added mid new lt all.sound all.takes one;
}
  where
    longer : length (take (i + 1) rows) ≡ length (take i rows) + 1
    longer = ap length (take_more rows i d lt) ∙ length-append (take i rows) (get_or rows i d ∷ [])

    short : length (take i rows) ≡ i
    short = length-take-le i rows (omega arith)

    none_or : (n : ℕ) → Contains one.found n ⊎ Contains one.finds.others n → Contains (map (pair_of s i) one.found) (pair_of s i n) ⊎ MatchesNone net stores (get_or rows i d) n
    none_or n (inl c) = inl (contains_map (pair_of s i) one.found n c)
    none_or n (inr c) = inr (All-contains (MatchesNone net stores (get_or rows i d)) one.finds.others n one.finds.unmatched c)

    here : (n : ℕ) (t : TupleView) (k : ℕ) → k ≡ i → get_or rows i d ≡ t → Contains (map (pair_of s i) one.found) (pair_of s i n) ⊎ MatchesNone net stores (get_or rows i d) n → Contains (all.added ++ map (pair_of s i) one.found) (pair_of s k n) ⊎ MatchesNone net stores t n
    here n t k same is (inl c) = inl (Contains-append_right all.added (map (pair_of s i) one.found) (pair_of s k n) (subst (λ j. Contains (map (pair_of s i) one.found) (pair_of s j n)) (sym same) c))
    here n t k same is (inr none) = inr (subst (λ t. MatchesNone net stores t n) is none)

    before : (n : ℕ) (t : TupleView) (k : ℕ) → Contains all.added (pair_of s k n) ⊎ MatchesNone net stores t n → Contains (all.added ++ map (pair_of s i) one.found) (pair_of s k n) ⊎ MatchesNone net stores t n
    before n t k (inl c) = inl (Contains-append_left all.added (map (pair_of s i) one.found) (pair_of s k n) c)
    before n t k (inr none) = inr none

    at : (k : ℕ) (t : TupleView) (n : ℕ) → Contains (waits_on net s) n → (slice_get (take i rows) k ≡ Some t) ⊎ ((k ≡ length (take i rows)) × (get_or rows i d ≡ t)) → Contains (all.added ++ map (pair_of s i) one.found) (pair_of s k n) ⊎ MatchesNone net stores t n
    at k t n c (inl e) = before n t k (all.listed k t e n c)
    at k t n c (inr h) =
        here n t k (h.0 ∙ short) h.1
        (none_or n (Contains-append_cases one.found one.finds.others n (Contains-permutation (waits_on net s) (one.found ++ one.finds.others) n (IsPermutation-sym _ _ one.finds.all) c)))
