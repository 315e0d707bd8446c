-- Lists that are mapped, filtered and joined, and what stands in them.
use Rattle.std.proofs.Common.{◌≡◌, ◌∙◌, sym, ap, refl, subst, ℕ, zero, suc, ◌<◌, ◌⊎◌, inl, inr, Bool, true, false, cond, get_or, length, List, [], ◌∷◌, ◌++◌, map, arith}
use Rattle.std.specs.Prelude.{Contains}
use Rattle.std.specs.List.{filter, flat_map}
use Rattle.std.proofs.lemmas.List.{map-append}
use Rattle.std.proofs.lemmas.List.Elements.{Contains-append_cases, Contains-append_left, Contains-append_right}

-- the images under two functions that agree
pub map_same : {X Y : Type 0} (f g : X → Y) → ((x : X) → f x ≡ g x) → (xs : List X) → map f xs ≡ map g xs
map_same f g same xs = λ i. map (λ x. same x i) xs

-- the images of what each item gives
pub map-flat_map : {X Y Z : Type 0} (f : Y → Z) (g : X → List Y) (xs : List X) → map f (flat_map g xs) ≡ flat_map (λ x. map f (g x)) xs
map-flat_map f g [] = refl
map-flat_map f g (x ∷ xs) = map-append f (g x) (flat_map g xs) ∙ ap (λ ys. map f (g x) ++ ys) (map-flat_map f g xs)

module _ {X : Type 0} where
  -- the first item stands in the list
  pub first_in : (x : X) (xs : List X) → Contains (x ∷ xs) x
  first_in x xs = (0, omega arith, refl)

  -- so does each of the others
  pub later_in : (x : X) (xs : List X) (y : X) → Contains xs y → Contains (x ∷ xs) y
  later_in x xs y has = (suc has.0, (let lt = has.1 in omega (arith, lt)), has.2)

  -- and nothing else does
  pub in_cases : (x : X) (xs : List X) (y : X) → Contains (x ∷ xs) y → (x ≡ y) ⊎ Contains xs y
  in_cases x xs y has = go has.0 has.1 has.2
    where
      go : (k : ℕ) → k < length (x ∷ xs) → get_or (x ∷ xs) k y ≡ y → (x ≡ y) ⊎ Contains xs y
      go zero lt is = inl is
      go (suc k) lt is = inr (k, omega (arith, lt), is)

  pub none_in : (y : X) → Contains [] y → ⊥
  none_in y has = let lt = has.1 in absurd (omega (arith, lt))

  -- an item that passes stands among those that do
  pub filter_in : (test : X → Bool) (xs : List X) (y : X) → Contains xs y → test y ≡ true → Contains (filter test xs) y
  filter_in test [] y has passes = absurd (none_in y has)
  filter_in test (x ∷ xs) y has passes = go (in_cases x xs y has) (λ later. filter_in test xs y later passes) (test x) refl
    where
      go : (x ≡ y) ⊎ Contains xs y → (Contains xs y → Contains (filter test xs) y) → (b : Bool) → test x ≡ b → Contains (cond b (x ∷ filter test xs) (filter test xs)) y
      go (inl same) rest true e = subst (λ (z : X). Contains (x ∷ filter test xs) z) same (first_in x (filter test xs))
      go (inl same) rest false e = absurd (let no : false ≡ true = sym e ∙ ap test same ∙ passes in cc)
      go (inr later) rest true e = later_in x (filter test xs) y (rest later)
      go (inr later) rest false e = rest later

  -- what stands among those that pass stands in the list, and passes
  pub in_filter : (test : X → Bool) (xs : List X) (y : X) → Contains (filter test xs) y → Contains xs y × (test y ≡ true)
  in_filter test [] y has = absurd (none_in y has)
  in_filter test (x ∷ xs) y has = go (in_filter test xs y) (test x) refl has
    where
      go : (Contains (filter test xs) y → Contains xs y × (test y ≡ true)) → (b : Bool) → test x ≡ b → Contains (cond b (x ∷ filter test xs) (filter test xs)) y → Contains (x ∷ xs) y × (test y ≡ true)
      go rest true e all = step (in_cases x (filter test xs) y all)
        where
          step : (x ≡ y) ⊎ Contains (filter test xs) y → Contains (x ∷ xs) y × (test y ≡ true)
          step (inl same) = (subst (λ (z : X). Contains (x ∷ xs) z) same (first_in x xs), ap test (sym same) ∙ e)
          step (inr later) = (later_in x xs y (rest later).0, (rest later).1)
      go rest false e all = (later_in x xs y (rest all).0, (rest all).1)

-- the image of an item stands among the images
pub map_in : {X Y : Type 0} (f : X → Y) (xs : List X) (x : X) → Contains xs x → Contains (map f xs) (f x)
map_in f [] x has = absurd (none_in x has)
map_in {X} {Y} f (z ∷ xs) x has = go (in_cases z xs x has) (map_in f xs x)
  where
    go : (z ≡ x) ⊎ Contains xs x → (Contains xs x → Contains (map f xs) (f x)) → Contains (f z ∷ map f xs) (f x)
    go (inl same) rest = subst (λ (w : X). Contains (f z ∷ map f xs) (f w)) same (first_in (f z) (map f xs))
    go (inr later) rest = later_in (f z) (map f xs) (f x) (rest later)

-- what stands among the images is one of an item
pub in_map : {X Y : Type 0} (f : X → Y) (xs : List X) (y : Y) → Contains (map f xs) y → (x : X) × Contains xs x × (f x ≡ y)
in_map f [] y has = absurd (none_in y has)
in_map {X} {Y} f (z ∷ xs) y has = go (in_cases (f z) (map f xs) y has) (in_map f xs y)
  where
    go : (f z ≡ y) ⊎ Contains (map f xs) y → (Contains (map f xs) y → (x : X) × Contains xs x × (f x ≡ y)) → (x : X) × Contains (z ∷ xs) x × (f x ≡ y)
    go (inl same) rest = (z, first_in z xs, same)
    go (inr later) rest = ((rest later).0, later_in z xs (rest later).0 (rest later).1, (rest later).2)

-- what an item gives stands in all that is given
pub flat_map_in : {X Y : Type 0} (f : X → List Y) (xs : List X) (x : X) (y : Y) → Contains xs x → Contains (f x) y → Contains (flat_map f xs) y
flat_map_in f [] x y has one = absurd (none_in x has)
flat_map_in {X} {Y} f (z ∷ xs) x y has one = go (in_cases z xs x has) (λ later. flat_map_in f xs x y later one)
  where
    go : (z ≡ x) ⊎ Contains xs x → (Contains xs x → Contains (flat_map f xs) y) → Contains (f z ++ flat_map f xs) y
    go (inl same) rest = Contains-append_left (f z) (flat_map f xs) y (subst (λ (w : X). Contains (f w) y) (sym same) one)
    go (inr later) rest = Contains-append_right (f z) (flat_map f xs) y (rest later)

-- what is given stands in what some item gives
pub in_flat_map : {X Y : Type 0} (f : X → List Y) (xs : List X) (y : Y) → Contains (flat_map f xs) y → (x : X) × Contains xs x × Contains (f x) y
in_flat_map f [] y has = absurd (none_in y has)
in_flat_map {X} {Y} f (z ∷ xs) y has = go (Contains-append_cases (f z) (flat_map f xs) y has) (in_flat_map f xs y)
  where
    go : Contains (f z) y ⊎ Contains (flat_map f xs) y → (Contains (flat_map f xs) y → (x : X) × Contains xs x × Contains (f x) y) → (x : X) × Contains (z ∷ xs) x × Contains (f x) y
    go (inl one) rest = (z, first_in z xs, one)
    go (inr later) rest = ((rest later).0, later_in z xs (rest later).0 (rest later).1, (rest later).2)
