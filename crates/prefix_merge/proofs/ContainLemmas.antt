-- Lists that contain an item, and sums over lists without doubles.
use Rattle.std.proofs.Common.{◌≡◌, ◌≢◌, ◌⊎◌, ◌∙◌, sym, ap, refl, subst, inl, inr, ℕ, zero, suc, ◌+◌, ◌<◌, ◌≤◌, length, get_or, List, [], ◌∷◌, map, arith}
use Rattle.std.specs.Prelude.{All, AllPairs, Contains, sum_by}
use Rattle.std.specs.List.{flat_map, range_with_len, remove}
use Rattle.std.specs.List.Sorted.{IsPermutation}
use Rattle.std.proofs.lemmas.Grind.{in_remove}
use Rattle.std.proofs.lemmas.List.{get_or_default}
use Rattle.std.proofs.lemmas.List.Elements.{Contains-append_cases, Contains-append_left, Contains-append_right}
use Rattle.std.proofs.lemmas.List.Sorted.{All-permutation, IsPermutation-sym}
use Rattle.std.proofs.lemmas.List.Sums.{sum_by-cons}

module _ {X : Type 0} where
  -- the first item and the others
  pub first_in : (x : X) (xs : List X) → Contains (x ∷ xs) x
  first_in x xs = (0, omega arith, refl)

  -- what is among later items is among all
  pub later_in : (x : X) (xs : List X) (y : X) → Contains xs y → Contains (x ∷ xs) y
  later_in x xs y has = (suc has.0, (let lt = has.1 in omega (arith, lt)), has.2)

  -- what is among items is the first or among the later
  pub in_cases : (x : X) (xs : List X) (y : X) → Contains (x ∷ xs) y → (y ≡ x) ⊎ (Contains xs y)
  in_cases x xs y has = go has.0 has.1 has.2
    where
      go : (k : ℕ) → k < length (x ∷ xs) → get_or (x ∷ xs) k y ≡ y → (y ≡ x) ⊎ (Contains xs y)
      go zero lt is = inl (sym is)
      go (suc k) lt is = inr (k, omega (arith, lt), is)

  -- nothing is among none
  pub none_in : (y : X) → Contains [] y → ⊥
  none_in y has = let lt = has.1 in absurd (omega (arith, lt))

  -- a list and its permutations contain the same
  pub in_permuted : (xs ys : List X) (x : X) → IsPermutation xs ys → Contains xs x → Contains ys x
  in_permuted xs ys x same has =
      let each : All (Contains ys) xs = All-permutation (Contains ys) ys xs (IsPermutation-sym xs ys same) (λ k d lt. (k, lt, get_or_default ys k (get_or ys k d) d lt)) in
      subst (Contains ys) has.2 (each has.0 x has.1)

  -- what stands at a place of a list, and the rest
  pub sum_remove : (f : X → ℕ) (ys : List X) (k : ℕ) (d : X) → k < length ys → sum_by f ys ≡ f (get_or ys k d) + sum_by f (remove ys k)
  sum_remove f [] k d lt = absurd (omega (arith, lt))
  sum_remove f (y ∷ ys) zero d lt = sum_by-cons f y ys
  sum_remove f (y ∷ ys) (suc k) d lt =
      let rest = sum_remove f ys k d (omega (arith, lt)) in
      let one = sum_by-cons f y ys in
      let two = sum_by-cons f y (remove ys k) in omega (arith, rest, one, two)

  -- items without doubles have no more than a list that contains them
  pub sum_distinct : (f : X → ℕ) (xs ys : List X) → AllPairs (λ x y. x ≢ y) xs → ((x : X) → Contains xs x → Contains ys x) → sum_by f xs ≤ sum_by f ys
  sum_distinct f [] ys apart within = omega arith
  sum_distinct f (x ∷ xs) ys apart within =
      let k = within x (first_in x xs) in
      let rest = sum_distinct f xs (remove ys k.0) (λ i j d lt below. apart (suc i) (suc j) d (omega (arith, lt)) (omega (arith, below))) rest_within in
      let taken = sum_remove f ys k.0 x k.1 in
      let here : f (get_or ys k.0 x) ≡ f x = ap f k.2 in
      let one = sum_by-cons f x xs in omega (arith, rest, taken, here, one)
    where
      rest_within : (y : X) → Contains xs y → Contains (remove ys (within x (first_in x xs)).0) y
      rest_within y has =
          let k = within x (first_in x xs) in
          let j = within y (later_in x xs y has) in
          let other : j.0 ≡ k.0 → ⊥ = λ same. (
          let in_x : get_or ys k.0 y ≡ x = get_or_default ys k.0 y x k.1 ∙ k.2 in
          let both : x ≡ y = sym in_x ∙ ap (λ n. get_or ys n y) (sym same) ∙ j.2 in
          let lt = has.1 in apart 0 (suc has.0) y (omega arith) (omega (arith, lt)) (both ∙ sym has.2)
          ) in
          (in_remove ys k.0 j.0 y k.1 j.1 (sym j.2) other).1

  -- one for each item
  pub sum_ones : (xs : List X) → sum_by (λ x. 1) xs ≡ length xs
  sum_ones [] = refl
  sum_ones (x ∷ xs) = let one = sum_by-cons (λ x. 1) x xs in let rest = sum_ones xs in omega (arith, one, rest)

  -- a list without doubles isn't longer than one that contains its items
  pub no_longer : (xs ys : List X) → AllPairs (λ x y. x ≢ y) xs → ((x : X) → Contains xs x → Contains ys x) → length xs ≤ length ys
  no_longer xs ys apart within =
      let less = sum_distinct (λ x. 1) xs ys apart within in
      let few = sum_ones xs in
      let many = sum_ones ys in omega (arith, less, few, many)

module _ {X Y : Type 0} (f : X → List Y) where
  -- what one of the lists contains
  pub in_flat_map : (xs : List X) (x : X) (y : Y) → Contains xs x → Contains (f x) y → Contains (flat_map f xs) y
  in_flat_map [] x y has inner = absurd (none_in x has)
  in_flat_map (first ∷ xs) x y has inner = go (in_flat_map xs x y) (in_cases first xs x has)
    where
      go : (Contains xs x → Contains (f x) y → Contains (flat_map f xs) y) → (x ≡ first) ⊎ (Contains xs x) → Contains (flat_map f (first ∷ xs)) y
      go rest (inl same) = Contains-append_left (f first) (flat_map f xs) y (subst (λ z. Contains (f z) y) same inner)
      go rest (inr later) = Contains-append_right (f first) (flat_map f xs) y (rest later inner)

  -- what is among lists of items is in the list of one of them
  pub from_flat_map : (xs : List X) (y : Y) → Contains (flat_map f xs) y → (x : X) × Contains xs x × Contains (f x) y
  from_flat_map [] y has = absurd (none_in y has)
  from_flat_map (first ∷ xs) y has = go (from_flat_map xs y) (Contains-append_cases (f first) (flat_map f xs) y has)
    where
      go : (Contains (flat_map f xs) y → (x : X) × Contains xs x × Contains (f x) y) → (Contains (f first) y) ⊎ (Contains (flat_map f xs) y) → (x : X) × Contains (first ∷ xs) x × Contains (f x) y
      go rest (inl here) = (first, first_in first xs, here)
      go rest (inr later) = let found = rest later in (found.0, later_in first xs found.0 found.1, found.2)

module _ {X Y : Type 0} (f : X → Y) where
  -- the image of an item is among the images
  pub in_map : (xs : List X) (x : X) → Contains xs x → Contains (map f xs) (f x)
  in_map [] x has = absurd (none_in x has)
  in_map (first ∷ xs) x has = go (in_map xs x) (in_cases first xs x has)
    where
      go : (Contains xs x → Contains (map f xs) (f x)) → (x ≡ first) ⊎ (Contains xs x) → Contains (map f (first ∷ xs)) (f x)
      go rest (inl same) = subst (λ z. Contains (map f (first ∷ xs)) (f z)) (sym same) (first_in (f first) (map f xs))
      go rest (inr later) = later_in (f first) (map f xs) (f x) (rest later)

  -- an image is that of an item
  pub from_map : (xs : List X) (y : Y) → Contains (map f xs) y → (x : X) × Contains xs x × (f x ≡ y)
  from_map [] y has = absurd (none_in y has)
  from_map (first ∷ xs) y has = go (from_map xs y) (in_cases (f first) (map f xs) y has)
    where
      go : (Contains (map f xs) y → (x : X) × Contains xs x × (f x ≡ y)) → (y ≡ f first) ⊎ (Contains (map f xs) y) → (x : X) × Contains (first ∷ xs) x × (f x ≡ y)
      go rest (inl same) = (first, first_in first xs, sym same)
      go rest (inr later) = let found = rest later in (found.0, later_in first xs found.0 found.1, found.2)

-- numbers from one on
pub in_range : (a n k : ℕ) → k < n → Contains (range_with_len a n) (a + k)
in_range a zero k lt = absurd (omega (arith, lt))
in_range a (suc n) zero lt = let e : a ≡ a + 0 = omega arith in subst (Contains (range_with_len a (suc n))) e (first_in a (range_with_len (a + 1) n))
in_range a (suc n) (suc k) lt =
    let e : a + 1 + k ≡ a + suc k = omega arith in
    subst (Contains (range_with_len a (suc n))) e (later_in a (range_with_len (a + 1) n) (a + 1 + k) (in_range (a + 1) n k (omega (arith, lt))))
