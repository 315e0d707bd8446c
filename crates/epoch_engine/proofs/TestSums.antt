-- Sums that are taken apart, put together and compared.
use Rattle.std.proofs.Common.{◌≡◌, ◌∙◌, sym, ap, refl, ℕ, zero, suc, ◌+◌, ◌<◌, ◌≤◌, ◌==◌, Bool, true, false, cond, length, List, [], ◌∷◌, ◌++◌, map, arith}
use Rattle.std.specs.Prelude.{count_by, sum_by}
use Rattle.std.specs.List.{All, filter, flat_map, range_with_len}
use Rattle.std.proofs.lemmas.List.Elements.{All-head, All-tail, filter-append}
use Rattle.std.proofs.lemmas.List.Sorted.{sum_by-IsPermutation}
use Rattle.std.proofs.lemmas.List.Sums.{sum_by-append, sum_by-cons}
use Rattle.event_types.proofs.NumberLemmas.{less_other, other_number, same_number}
use Rattle.scalar_expr.proofs.Bags.{filter_permuted}
use Rattle.epoch_laws.specs.Stores.{IsWithin}

module _ {X : Type 0} where
  -- where each has none, all have none
  pub sum_nothing : (xs : List X) → sum_by (λ x. 0) xs ≡ 0
  sum_nothing [] = refl
  sum_nothing (x ∷ xs) = let one = sum_by-cons (λ x. 0) x xs in let rest = sum_nothing xs in omega (arith, one, rest)

  -- the same for each item
  pub sum_same : (f g : X → ℕ) → ((x : X) → f x ≡ g x) → (xs : List X) → sum_by f xs ≡ sum_by g xs
  sum_same f g same xs = λ i. sum_by (λ x. same x i) xs

  -- no more for each of the items that are there
  pub sum_less : (f g : X → ℕ) (xs : List X) → All (λ x. f x ≤ g x) xs → sum_by f xs ≤ sum_by g xs
  sum_less f g [] all = omega arith
  sum_less f g (x ∷ xs) all =
      let here = All-head (λ x. f x ≤ g x) x xs all in
      let rest = sum_less f g xs (All-tail (λ x. f x ≤ g x) x xs all) in
      let one = sum_by-cons f x xs in
      let two = sum_by-cons g x xs in omega (arith, here, rest, one, two)

  -- a sum of sums
  pub sum_plus : (f g : X → ℕ) (xs : List X) → sum_by (λ x. f x + g x) xs ≡ sum_by f xs + sum_by g xs
  sum_plus f g [] = refl
  sum_plus f g (x ∷ xs) =
      let rest = sum_plus f g xs in
      let both = sum_by-cons (λ x. f x + g x) x xs in
      let one = sum_by-cons f x xs in
      let two = sum_by-cons g x xs in omega (arith, rest, both, one, two)

  -- only the items that pass a test have some
  pub sum_tested : (p : X → Bool) (f : X → ℕ) (xs : List X) → sum_by f (filter p xs) ≡ sum_by (λ x. cond (p x) (f x) 0) xs
  sum_tested p f [] = refl
  sum_tested p f (x ∷ xs) = go (p x) (sum_tested p f xs) ∙ sym (sum_by-cons (λ x. cond (p x) (f x) 0) x xs)
    where
      go : (b : Bool) → sum_by f (filter p xs) ≡ sum_by (λ x. cond (p x) (f x) 0) xs → sum_by f (cond b (x ∷ filter p xs) (filter p xs)) ≡ cond b (f x) 0 + sum_by (λ x. cond (p x) (f x) 0) xs
      go true rest = sum_by-cons f x (filter p xs) ∙ ap (λ n. f x + n) rest
      go false rest = omega (arith, rest)

  -- what passes has no more than all
  pub sum_passing : (p : X → Bool) (f : X → ℕ) (xs : List X) → sum_by f (filter p xs) ≤ sum_by f xs
  sum_passing p f [] = omega arith
  sum_passing p f (x ∷ xs) = go (p x) (sum_passing p f xs)
    where
      go : (b : Bool) → sum_by f (filter p xs) ≤ sum_by f xs → sum_by f (cond b (x ∷ filter p xs) (filter p xs)) ≤ sum_by f (x ∷ xs)
      go true rest = let one = sum_by-cons f x (filter p xs) in let two = sum_by-cons f x xs in omega (arith, one, two, rest)
      go false rest = let two = sum_by-cons f x xs in omega (arith, two, rest)

  -- no more items of one size each
  pub sum_fewer : {Y : Type 0} (c : ℕ) (xs : List X) (ys : List Y) → length xs ≤ length ys → sum_by (λ x. c) xs ≤ sum_by (λ y. c) ys
  sum_fewer c [] ys few = omega arith
  sum_fewer c (x ∷ xs) [] few = absurd (omega (arith, few))
  sum_fewer c (x ∷ xs) (y ∷ ys) few =
      let rest = sum_fewer c xs ys (omega (arith, few)) in
      let one = sum_by-cons (λ x. c) x xs in
      let other = sum_by-cons (λ y. c) y ys in omega (arith, rest, one, other)

  -- where as many pass as one or none, they have what one has or nothing
  pub sum_counted : (p : X → Bool) (c : ℕ) (b : Bool) (xs : List X) → count_by p xs ≡ cond b 1 0 → sum_by (λ x. cond (p x) c 0) xs ≡ cond b c 0
  sum_counted p c true [] none = absurd (omega (arith, none))
  sum_counted p c false [] none = refl
  sum_counted p c b (x ∷ xs) counted = sum_by-cons (λ x. cond (p x) c 0) x xs ∙ go b (p x) (sym (sum_by-cons (λ x. cond (p x) 1 0) x xs) ∙ counted) (λ d. sum_counted p c d xs)
    where
      go : (b q : Bool) → cond q 1 0 + count_by p xs ≡ cond b 1 0 → ((d : Bool) → count_by p xs ≡ cond d 1 0 → sum_by (λ x. cond (p x) c 0) xs ≡ cond d c 0)
          → cond q c 0 + sum_by (λ x. cond (p x) c 0) xs ≡ cond b c 0
      go true true e rest = let none = rest false (omega (arith, e)) in omega (arith, none)
      go true false e rest = let one = rest true (omega (arith, e)) in omega (arith, one)
      go false true e rest = absurd (omega (arith, e))
      go false false e rest = let none = rest false (omega (arith, e)) in omega (arith, none)

module _ {X Y : Type 0} where
  -- a sum over images
  pub sum_images : (f : Y → ℕ) (g : X → Y) (xs : List X) → sum_by f (map g xs) ≡ sum_by (λ x. f (g x)) xs
  sum_images f g [] = refl
  sum_images f g (x ∷ xs) = sum_by-cons f (g x) (map g xs) ∙ ap (λ n. f (g x) + n) (sum_images f g xs) ∙ sym (sum_by-cons (λ x. f (g x)) x xs)

  -- a sum over lists that are put together
  pub sum_flat : (f : Y → ℕ) (g : X → List Y) (xs : List X) → sum_by f (flat_map g xs) ≡ sum_by (λ x. sum_by f (g x)) xs
  sum_flat f g [] = refl
  sum_flat f g (x ∷ xs) = sum_by-append f (g x) (flat_map g xs) ∙ ap (λ n. sum_by f (g x) + n) (sum_flat f g xs) ∙ sym (sum_by-cons (λ x. sum_by f (g x)) x xs)

  -- pairs by the first and pairs by the second
  pub sum_turned : (f : X → Y → ℕ) (xs : List X) (ys : List Y) → sum_by (λ x. sum_by (f x) ys) xs ≡ sum_by (λ y. sum_by (λ x. f x y) xs) ys
  sum_turned f [] ys = sym (sum_nothing ys)
  sum_turned f (x ∷ xs) ys =
      sum_by-cons (λ x. sum_by (f x) ys) x xs
      ∙ ap (λ n. sum_by (f x) ys + n) (sum_turned f xs ys)
      ∙ sym (sum_plus (f x) (λ y. sum_by (λ x. f x y) xs) ys)
      ∙ sum_same (λ y. f x y + sum_by (λ x. f x y) xs) (λ y. sum_by (λ x. f x y) (x ∷ xs)) (λ y. sym (sum_by-cons (λ x. f x y) x xs)) ys

-- one of the numbers of a range has no more than its own
module _ (f : ℕ → ℕ) (r : ℕ) where
  none_later : (a n : ℕ) → r < a → sum_by (λ s. cond (r == s) (f s) 0) (range_with_len a n) ≡ 0
  none_later a zero lt = refl
  none_later a (suc n) lt =
      let here : cond (r == a) (f a) 0 ≡ 0 = ap (λ b. cond b (f a) 0) (less_other r a lt) in
      let rest = none_later (a + 1) n (omega (arith, lt)) in
      let one = sum_by-cons (λ s. cond (r == s) (f s) 0) a (range_with_len (a + 1) n) in omega (arith, here, rest, one)

  -- a range has it at most once
  pub one_of_range : (a n : ℕ) → sum_by (λ s. cond (r == s) (f s) 0) (range_with_len a n) ≤ f r
  one_of_range a zero = omega arith
  one_of_range a (suc n) = go (r == a) refl (one_of_range (a + 1) n)
    where
      one : sum_by (λ s. cond (r == s) (f s) 0) (range_with_len a (suc n)) ≡ cond (r == a) (f a) 0 + sum_by (λ s. cond (r == s) (f s) 0) (range_with_len (a + 1) n)
      one = sum_by-cons (λ s. cond (r == s) (f s) 0) a (range_with_len (a + 1) n)

      go : (b : Bool) → (r == a) ≡ b → sum_by (λ s. cond (r == s) (f s) 0) (range_with_len (a + 1) n) ≤ f r → sum_by (λ s. cond (r == s) (f s) 0) (range_with_len a (suc n)) ≤ f r
      go true e rest =
          let same = same_number r a e in
          let here : cond (r == a) (f a) 0 ≡ f r = ap (λ b. cond b (f a) 0) e ∙ ap f (sym same) in
          let none = none_later (a + 1) n (omega (arith, same)) in omega (arith, one, here, none)
      go false e rest = let here : cond (r == a) (f a) 0 ≡ 0 = ap (λ b. cond b (f a) 0) e in omega (arith, one, here, rest)

  -- a number of a range has no less
  pub in_range_has : (a n : ℕ) → a ≤ r → r < a + n → f r ≤ sum_by (λ s. cond (r == s) (f s) 0) (range_with_len a n)
  in_range_has a zero le lt = absurd (omega (arith, le, lt))
  in_range_has a (suc n) le lt = go (r == a) refl (in_range_has (a + 1) n)
    where
      one : sum_by (λ s. cond (r == s) (f s) 0) (range_with_len a (suc n)) ≡ cond (r == a) (f a) 0 + sum_by (λ s. cond (r == s) (f s) 0) (range_with_len (a + 1) n)
      one = sum_by-cons (λ s. cond (r == s) (f s) 0) a (range_with_len (a + 1) n)

      go : (b : Bool) → (r == a) ≡ b → (a + 1 ≤ r → r < a + 1 + n → f r ≤ sum_by (λ s. cond (r == s) (f s) 0) (range_with_len (a + 1) n)) → f r ≤ sum_by (λ s. cond (r == s) (f s) 0) (range_with_len a (suc n))
      go true e rest = let here : cond (r == a) (f a) 0 ≡ f r = ap (λ b. cond b (f a) 0) e ∙ ap f (sym (same_number r a e)) in omega (arith, one, here)
      go false e rest =
          let other = other_number r a e in
          let more = rest (omega (arith, le, other)) (omega (arith, lt)) in omega (arith, one, more)

module _ {X : Type 0} where
  -- one test for all items
  pub sum_one_test : (b : Bool) (f : X → ℕ) (xs : List X) → sum_by (λ x. cond b (f x) 0) xs ≡ cond b (sum_by f xs) 0
  sum_one_test true f xs = refl
  sum_one_test false f xs = sum_nothing xs

  -- the items of a list that is within another have no more than those of the other
  pub sum_within : (p : X → Bool) (f : X → ℕ) (xs ys : List X) → IsWithin xs ys → sum_by f (filter p xs) ≤ sum_by f (filter p ys)
  sum_within p f xs ys within =
      let same = sum_by-IsPermutation f (filter p (xs ++ within.0)) (filter p ys) (filter_permuted p (xs ++ within.0) ys within.1) in
      let parts = ap (sum_by f) (filter-append p xs within.0) ∙ sum_by-append f (filter p xs) (filter p within.0) in omega (arith, same, parts)
