-- What is found among entries that are filed.
use Rattle.std.proofs.Common.{◌≡◌, ◌∙◌, ap, refl, sym, subst, ℕ, ◌<◌, inl, inr, Bool, true, false, cond, eqb, List, [], ◌∷◌, Contains, arith}
use Rattle.std.specs.Prelude.{Some}
use Rattle.std.specs.declared.cmp.Ordering.TheVariants.{Less}
use Rattle.std.specs.Ordering.{nat_cmp}
use Rattle.std.specs.BTreeMap.{is_at}
use Rattle.std.specs.List.{All, AllByRecursion, dedup, filter}
use Rattle.std.specs.List.Sorted.{IsSorted, IsStrictlySortedBy}
use Rattle.std.specs.Map.{keys_of, lookup}
use Rattle.std.proofs.lemmas.Bool.Decides.{nat_tests}
use Rattle.std.proofs.lemmas.List.Elements.{All-head, All-tail}
use Rattle.std.proofs.lemmas.Cmp.{nat_cmp_total}
use Rattle.std.proofs.lemmas.List.Kept.{IsStrictlySortedBy-dedup, IsStrictlySortedBy-filter}
use Rattle.event_types.specs.Tuple.{TupleView}
use Rattle.static_index.specs.Conditions.{Ascends, Condition, ids_of}
use Rattle.static_index.specs.Entries.{AreOrdered}
use Rattle.static_index.specs.Narrowing.{passing}
use Rattle.static_index.specs.Table.{asked_ids, condition_of, conditions_of, entry_meets, holds_as, meets}
use Rattle.static_index.specs.declared.entry.Asked.{Asked}
use Rattle.static_index.specs.declared.entry.Entry.{Entry}
use Rattle.static_index.proofs.BucketLemmas.{nat_exact}
use Rattle.static_index.proofs.NarrowLemmas.{In, In_from_Contains, Rises, all_in, passing_is}
use Rattle.static_index.proofs.TableLemmas.{Ascends-filter, above_kept, keys_are_ids}

-- ids that ascend rise
rises_all : (x : ℕ) (xs : List ℕ) → AllByRecursion (λ y. nat_cmp x y ≡ Less) xs → AllByRecursion (λ y. x < y) xs
rises_all x [] all = tt
rises_all x (y ∷ ys) all = (less all.0, rises_all x ys all.1)
  where
    less : nat_cmp x y ≡ Less → x < y
    less e = grind (arith, nat_tests)

rises : (xs : List ℕ) → Ascends xs → Rises xs
unfolding IsStrictlySortedBy
rises [] up = tt
rises (x ∷ xs) up = (rises_all x xs up.0, rises xs up.1)

-- an id is found by itself, and not by one above it
at_itself : (x z : ℕ) → x ≡ z → is_at (nat_cmp z) x ≡ true
at_itself x z same = grind (arith, nat_tests)

not_above : (x z : ℕ) → nat_cmp x z ≡ Less → is_at (nat_cmp z) x ≡ false
not_above x z less = grind (arith, nat_tests)

module _ (asked : Asked) (event : TupleView) where
  -- whether the parts of a condition that are asked hold for the event
  abbrev pub test : Condition → Bool
  test condition = holds_as asked event condition.parts

  -- the ids of the conditions for which they hold
  abbrev pub listed : List (ℕ × Entry) → List ℕ
  listed es = ids_of (filter test (conditions_of es))

  -- what is listed is met, by induction on the entries
  listed_met : (es : List (ℕ × Entry)) → IsStrictlySortedBy nat_cmp (keys_of es) → (z : ℕ) → In z (listed es) → entry_meets asked event (lookup (is_at (nat_cmp z)) es) ≡ true
  unfolding IsStrictlySortedBy
  listed_met [] up z there = absurd there
  listed_met (e ∷ es) up z there = go (test (condition_of e)) refl there (listed_met es up.1 z)
    where
      later : In z (listed es) → (In z (listed es) → entry_meets asked event (lookup (is_at (nat_cmp z)) es) ≡ true) → entry_meets asked event (lookup (is_at (nat_cmp z)) (e ∷ es)) ≡ true
      later among rest =
          let above = above_kept test e.0 (conditions_of es) (subst (AllByRecursion (λ y. nat_cmp e.0 y ≡ Less)) (sym (keys_are_ids es)) up.0) in
          let apart = not_above e.0 z (all_in (λ y. nat_cmp e.0 y ≡ Less) (listed es) above z among) in
          ap (λ b. entry_meets asked event (cond b (Some e.1) (lookup (is_at (nat_cmp z)) es))) apart ∙ rest among

      go : (b : Bool) → test (condition_of e) ≡ b → In z (ids_of (cond b (condition_of e ∷ filter test (conditions_of es)) (filter test (conditions_of es))))
          → (In z (listed es) → entry_meets asked event (lookup (is_at (nat_cmp z)) es) ≡ true) → entry_meets asked event (lookup (is_at (nat_cmp z)) (e ∷ es)) ≡ true
      go true is (inl same) rest = ap (λ b. entry_meets asked event (cond b (Some e.1) (lookup (is_at (nat_cmp z)) es))) (at_itself e.0 z same) ∙ is
      go true is (inr among) rest = later among rest
      go false is among rest = later among rest

  -- what is met is listed
  met_listed : (es : List (ℕ × Entry)) (z : ℕ) → entry_meets asked event (lookup (is_at (nat_cmp z)) es) ≡ true → In z (listed es)
  met_listed [] z met = absurd (cc)
  met_listed (e ∷ es) z met = go (is_at (nat_cmp z) e.0) refl met (met_listed es z)
    where
      more : (b : Bool) → In z (listed es) → In z (ids_of (cond b (condition_of e ∷ filter test (conditions_of es)) (filter test (conditions_of es))))
      more true among = inr among
      more false among = among

      go : (b : Bool) → is_at (nat_cmp z) e.0 ≡ b → entry_meets asked event (cond b (Some e.1) (lookup (is_at (nat_cmp z)) es)) ≡ true → (entry_meets asked event (lookup (is_at (nat_cmp z)) es) ≡ true → In z (listed es)) → In z (listed (e ∷ es))
      go true is holds rest = subst (λ (b : Bool). In z (ids_of (cond b (condition_of e ∷ filter test (conditions_of es)) (filter test (conditions_of es))))) (sym holds) (inl (sym (nat_exact z e.0 is)))
      go false is holds rest = more (test (condition_of e)) (rest holds)

  -- what is listed was found
  listed_found : (xs : List ℕ) (es : List (ℕ × Entry)) → All (λ e. holds_as asked event e.1.parts ≡ true → Contains xs e.0) es → (z : ℕ) → In z (listed es) → In z xs
  listed_found xs [] found z there = absurd there
  listed_found xs (e ∷ es) found z there =
      go (test (condition_of e)) refl there (listed_found xs es (All-tail (λ (e : ℕ × Entry). holds_as asked event e.1.parts ≡ true → Contains xs e.0) e es found) z)
    where
      go : (b : Bool) → test (condition_of e) ≡ b → In z (ids_of (cond b (condition_of e ∷ filter test (conditions_of es)) (filter test (conditions_of es)))) → (In z (listed es) → In z xs) → In z xs
      go true is (inl same) rest =
          subst (λ (w : ℕ). In w xs) same (In_from_Contains xs e.0 (All-head (λ (e : ℕ × Entry). holds_as asked event e.1.parts ≡ true → Contains xs e.0) e es found is))
      go true is (inr among) rest = rest among
      go false is among rest = rest among

  -- of sorted ids, among which are those of all that hold, exactly these are kept
  pub found_is : (es : List (ℕ × Entry)) (xs : List ℕ) → AreOrdered es → IsSorted nat_cmp xs → All (λ e. holds_as asked event e.1.parts ≡ true → Contains xs e.0) es
      → passing (meets es asked event) xs ≡ asked_ids asked event (conditions_of es)
  found_is es xs up sorted found =
      let ascends = Ascends-filter test (conditions_of es) (subst Ascends (sym (keys_are_ids es)) up) in
      let once = IsStrictlySortedBy-dedup nat_cmp_total (λ x y. grind (arith, nat_tests)) xs sorted in
      passing_is (meets es asked event) xs (listed es) (rises (passing (meets es asked event) xs) (IsStrictlySortedBy-filter nat_cmp (meets es asked event) (dedup eqb xs) once)) (rises (listed es) ascends)
      (λ z there. (listed_met es up z there, listed_found xs es found z there)) (met_listed es)

  -- these ids ascend, where the keys of the entries do
  pub found_ascends : (es : List (ℕ × Entry)) → AreOrdered es → Ascends (asked_ids asked event (conditions_of es))
  found_ascends es up = Ascends-filter test (conditions_of es) (subst Ascends (sym (keys_are_ids es)) up)
