-- Ids in order, found by halving.
use Rattle.std.proofs.Common.{◌≡◌, ◌∙◌, ap, refl, sym, subst, ℕ, zero, suc, ◌<◌, ◌≤◌, ◌⊎◌, inl, inr, ◌==◌, nat_lt, true, false, not, cond, filter, List, [], ◌∷◌, length, get_or, Some, slice_get, Contains, Result, Ok, Err, IfOk, IfErr, OnOk, OnErr, arith}
use Rattle.std.specs.declared.cmp.Ordering.TheVariants.{Less}
use Rattle.std.specs.List.{AllByRecursion, insert, remove}
use Rattle.std.specs.List.Sorted.{IsBinarySearchResult, IsNonDecreasingBy, IsSearchInRange, IsStrictlySortedBy}
use Rattle.std.specs.Ordering.{nat_cmp, ordering_index}
use Rattle.std.proofs.lemmas.Bool.{cases_Bool}
use Rattle.std.proofs.lemmas.Bool.Decides.{nat_tests}
use Rattle.std.proofs.lemmas.Cmp.{nat_cmp_total, ranked}
use Rattle.std.proofs.lemmas.List.Elements.{Contains-append_right}
use Rattle.std.proofs.lemmas.List.Kept.{IsStrictlySortedBy-filter}
use Rattle.std.proofs.lemmas.Map.Keys.{Less-from_sorted}
use Rattle.std.proofs.lemmas.Option.{get_or_from_slice_get, slice_get-get_or, slice_get_within}
use Rattle.smallvec.specs.SmallVec.{SmallVec}
use Rattle.static_index.specs.Conditions.{Ascends}
use Rattle.static_index.specs.Ids.{HasAt, LacksAt}

module _ (ids : List ℕ) (up : Ascends ids) (id : ℕ) where
  -- the comparisons with an id rise along the ids, as a binary search asks
  comparisons_rise : IsNonDecreasingBy (λ n. ordering_index (nat_cmp n id)) ids
  comparisons_rise i j d le lt =
      let below : i < j → nat_cmp (get_or ids i d) (get_or ids j d) ≡ Less = λ apart. Less-from_sorted nat_cmp ids i j d up apart lt in
      let same : i ≡ j → get_or ids i d ≡ get_or ids j d = λ (e : i ≡ j). ap (λ (k : ℕ). get_or ids k d) e in
      grind (arith, nat_tests, below, same)

  -- a binary search ends at the id, or where it is missing
  pub halved : (r : Result ℕ ℕ) → IsSearchInRange r (length ids) → IsBinarySearchResult (λ n. nat_cmp n id) ids r → record { found : IfOk r (HasAt id ids); missing : IfErr r (LacksAt id ids) }
  halved (Ok place) within equal = record { found = slice_get-get_or ids place id within ∙ ap (λ (n : ℕ). Some n) (ranked _ id _ (sym (equal id))); missing = tt }
  halved (Err place) within parted = record {
    found = tt;
    missing = record {
      within = within;
      smaller_before = λ k n lt at. subst (λ (m : ℕ). m < id) (get_or_from_slice_get ids k n n at) (ranked _ id _ (sym ((parted comparisons_rise).0 k n (omega arith) lt)));
      greater_after = λ k n le at. subst (λ (m : ℕ). id < m) (get_or_from_slice_get ids k n n at) (ranked _ id _ (sym ((parted comparisons_rise).1 k n le (slice_get_within ids k n at))));
    };
  }

-- no id stays in order
pub none_ascend : Ascends []
unfolding IsStrictlySortedBy
none_ascend = tt

-- behind the first id, one is missing a place lower
lacks_behind : (id n : ℕ) (ids : List ℕ) (place : ℕ) → LacksAt id (n ∷ ids) (suc place) → LacksAt id ids place
lacks_behind id n ids place lacks = record {
  within = let le = lacks.within in omega (arith, le);
  smaller_before = λ k m lt at. lacks.smaller_before (suc k) m (omega arith) at;
  greater_after = λ k m le at. lacks.greater_after (suc k) m (omega arith) at;
}

-- a number that is below another is below those in order behind it, where it is put between
below_inserted : (x id : ℕ) (ids : List ℕ) (place : ℕ) → nat_cmp x id ≡ Less → AllByRecursion (λ y. nat_cmp x y ≡ Less) ids → AllByRecursion (λ y. nat_cmp x y ≡ Less) (insert ids place id)
below_inserted x id [] zero less all = (less, tt)
below_inserted x id [] (suc place) less all = (less, tt)
below_inserted x id (n ∷ ids) zero less all = (less, all)
below_inserted x id (n ∷ ids) (suc place) less all = (all.0, below_inserted x id ids place less all.1)

-- what is above a number is above a lesser one
pub above_lesser : (x y : ℕ) (ids : List ℕ) → nat_cmp x y ≡ Less → AllByRecursion (λ z. nat_cmp y z ≡ Less) ids → AllByRecursion (λ z. nat_cmp x z ≡ Less) ids
above_lesser x y [] less all = tt
above_lesser x y (n ∷ ids) less all = (nat_cmp_total.trans x y n less all.0, above_lesser x y ids less all.1)

-- ids stay in order with one more where it is missing, by induction on them
pub ascend_inserted : (id : ℕ) (ids : List ℕ) (place : ℕ) → LacksAt id ids place → Ascends ids → Ascends (insert ids place id)
unfolding IsStrictlySortedBy
ascend_inserted id [] zero lacks up = (tt, tt)
ascend_inserted id [] (suc place) lacks up = absurd (let le = lacks.within in omega (arith, le))
ascend_inserted id (n ∷ ids) zero lacks up =
    let lt = lacks.greater_after 0 n (omega arith) refl in
    let less : nat_cmp id n ≡ Less = grind (arith, nat_tests) in ((less, above_lesser id n ids less up.0), up)
ascend_inserted id (n ∷ ids) (suc place) lacks up =
    let lt = lacks.smaller_before 0 n (omega arith) refl in
    let less : nat_cmp n id ≡ Less = grind (arith, nat_tests) in (below_inserted n id ids place less up.0, ascend_inserted id ids place (lacks_behind id n ids place lacks) up.1)

-- the others stay where one is put
pub kept_inserted : (id : ℕ) (ids : List ℕ) (place : ℕ) (m : ℕ) → Contains ids m → Contains (insert ids place id) m
kept_inserted id ids zero m has = Contains-append_right (id ∷ []) ids m has
kept_inserted id [] (suc place) m has = Contains-append_right (id ∷ []) [] m has
kept_inserted id (n ∷ ids) (suc place) m (zero, lt, same) = (0, omega arith, same)
kept_inserted id (n ∷ ids) (suc place) m (suc k, lt, is) = Contains-append_right (n ∷ []) (insert ids place id) m (kept_inserted id ids place m (k, omega arith, is))

-- none of the greater ids is taken out
greater_stay : (id : ℕ) (ids : List ℕ) → AllByRecursion (λ n. nat_cmp id n ≡ Less) ids → filter (λ n. not (n == id)) ids ≡ ids
greater_stay id [] all = refl
greater_stay id (n ∷ ids) all =
    let less = all.0 in
    let other : not (n == id) ≡ true = grind (arith, nat_tests) in
    ap (λ b. cond b (n ∷ filter (λ m. not (m == id)) ids) (filter (λ m. not (m == id)) ids)) other ∙ ap (λ ms. n ∷ ms) (greater_stay id ids all.1)

-- what holds of each id holds of that at a place
at_place : (P : ℕ → Type 0) (ids : List ℕ) (place n : ℕ) → AllByRecursion P ids → slice_get ids place ≡ Some n → P n
at_place P [] place n all at = absurd (cc)
at_place P (m ∷ ids) zero n all at = let same : m ≡ n = cc in subst P same all.0
at_place P (m ∷ ids) (suc place) n all at = at_place P ids place n all.1 at

-- an id is taken out where it stands, by induction on the ids
pub taken_where : (id : ℕ) (ids : List ℕ) (place : ℕ) → Ascends ids → HasAt id ids place → remove ids place ≡ filter (λ n. not (n == id)) ids
unfolding IsStrictlySortedBy
taken_where id [] place up at = absurd (cc)
taken_where id (n ∷ ids) zero up at =
    let same : n ≡ id = cc in
    let here : not (n == id) ≡ false = grind (arith, nat_tests) in
    sym (ap (λ b. cond b (n ∷ filter (λ m. not (m == id)) ids) (filter (λ m. not (m == id)) ids)) here ∙ greater_stay id ids (subst (λ (k : ℕ). AllByRecursion (λ m. nat_cmp k m ≡ Less) ids) same up.0))
taken_where id (n ∷ ids) (suc place) up at =
    let less : nat_cmp n id ≡ Less = at_place (λ m. nat_cmp n m ≡ Less) ids place id up.0 at in
    let other : not (n == id) ≡ true = grind (arith, nat_tests) in
    ap (λ ms. n ∷ ms) (taken_where id ids place up.1 at) ∙ sym (ap (λ b. cond b (n ∷ filter (λ m. not (m == id)) ids) (filter (λ m. not (m == id)) ids)) other)

-- none is taken out where none is the id, by induction on the ids
others_all : (id : ℕ) (ids : List ℕ) → ((k n : ℕ) → slice_get ids k ≡ Some n → not (n == id) ≡ true) → filter (λ n. not (n == id)) ids ≡ ids
others_all id [] other = refl
others_all id (n ∷ ids) other =
    ap (λ b. cond b (n ∷ filter (λ m. not (m == id)) ids) (filter (λ m. not (m == id)) ids)) (other 0 n refl) ∙ ap (λ ms. n ∷ ms) (others_all id ids (λ k m at. other (suc k) m at))

-- nor where it is missing
pub none_taken : (id : ℕ) (ids : List ℕ) (place : ℕ) → LacksAt id ids place → filter (λ n. not (n == id)) ids ≡ ids
none_taken id ids place lacks = others_all id ids each
  where
    each : (k n : ℕ) → slice_get ids k ≡ Some n → not (n == id) ≡ true
    each k n at = go (by_place k)
      where
        by_place : (k : ℕ) → (k < place) ⊎ (place ≤ k)
        by_place k = elim (cases_Bool (nat_lt k place)) [ inl lt ↦ inl (grind (arith, nat_tests)) | inr ge ↦ inr (grind (arith, nat_tests)) ]

        go : (k < place) ⊎ (place ≤ k) → not (n == id) ≡ true
        go (inl before) = let lt = lacks.smaller_before k n before at in grind (arith, nat_tests)
        go (inr from) = let lt = lacks.greater_after k n from at in grind (arith, nat_tests)

-- an id that was put where it is missing, unless there was no memory
pub ascend_tried : {T E : Type 0} (r : Result T E) (id : ℕ) (old new : SmallVec ℕ) (place : ℕ) → OnOk r (new.items ≡ insert old.items place id) → OnErr r (new ≡ old) → LacksAt id old.items place → Ascends old.items → Ascends new.items
ascend_tried (Ok x) id old new place put kept lacks up = subst Ascends (sym put) (ascend_inserted id old.items place lacks up)
ascend_tried (Err x) id old new place put kept lacks up = subst (λ (v : SmallVec ℕ). Ascends v.items) (sym kept) up

-- an id that stands at a place is there
pub stands : (id : ℕ) (ids : List ℕ) (place : ℕ) → HasAt id ids place → Contains ids id
stands id ids place at = (place, slice_get_within ids place id at, get_or_from_slice_get ids place id id at)

-- ids stay in order without one
pub ascend_taken : (id : ℕ) (ids : List ℕ) (place : ℕ) → Ascends ids → HasAt id ids place → Ascends (remove ids place)
ascend_taken id ids place up at = subst Ascends (sym (taken_where id ids place up at)) (IsStrictlySortedBy-filter nat_cmp (λ n. not (n == id)) ids up)
