-- Numbers that stand once in a list.
use Rattle.std.proofs.Common.{◌≡◌, ◌≢◌, ◌∙◌, sym, ap, refl, subst, inl, inr, ℕ, zero, suc, ◌+◌, ◌<◌, ◌≤◌, ◌==◌, ◌⊎◌, not, Bool, true, false, cond, length, get_or, List, [], ◌∷◌, ◌++◌, arith}
use Rattle.std.specs.Prelude.{⊤, AllPairs, Contains}
use Rattle.std.specs.List.{filter, range_with_len}
use Rattle.std.specs.List.Sorted.{IsPermutation}
use Rattle.std.proofs.lemmas.List.Elements.{Contains-append_cases}
use Rattle.std.proofs.lemmas.List.Sorted.{IsPermutation-cons, IsPermutation-middle, IsPermutation-refl, IsPermutation-sym, IsPermutation-trans}
use Rattle.event_types.proofs.NumberLemmas.{is_other, other_number, same_number, self_equal}
use Rattle.scalar_expr.proofs.Bags.{permuted_from}

module _ {X : Type 0} where
  -- nothing is among none
  pub none_in : (y : X) → Contains [] y → ⊥
  none_in y has = let lt = has.1 in absurd (omega (arith, lt))

  -- the first item, and the others
  pub first_in : (x : X) (xs : List X) → Contains (x ∷ xs) x
  first_in x xs = (0, omega arith, refl)

  -- what is among the later items is among all
  pub later_in : (x : X) (xs : List X) (y : X) → Contains xs y → Contains (x ∷ xs) y
  later_in x xs y has = (suc has.0, (let lt = has.1 in omega (arith, lt)), has.2)

  -- what is among items is the first or among the later
  pub in_cases : (x : X) (xs : List X) (y : X) → Contains (x ∷ xs) y → (x ≡ y) ⊎ Contains xs y
  in_cases x xs y has = go has.0 has.1 has.2
    where
      go : (k : ℕ) → k < length (x ∷ xs) → get_or (x ∷ xs) k y ≡ y → (x ≡ y) ⊎ Contains xs y
      go zero lt is = inl is
      go (suc k) lt is = inr (k, omega (arith, lt), is)

  -- what passes a test and is among items is among those that pass it
  pub in_filter : (p : X → Bool) (xs : List X) (x : X) → p x ≡ true → Contains xs x → Contains (filter p xs) x
  in_filter p [] x e c = c
  in_filter p (y ∷ xs) x e c = go (p y) refl (in_cases y xs x c) (in_filter p xs x e)
    where
      go : (b : Bool) → p y ≡ b → (y ≡ x) ⊎ Contains xs x → (Contains xs x → Contains (filter p xs) x) → Contains (cond b (y ∷ filter p xs) (filter p xs)) x
      go true is (inl same) rest = subst (Contains (y ∷ filter p xs)) same (first_in y (filter p xs))
      go true is (inr c) rest = later_in y (filter p xs) x (rest c)
      go false is (inl same) rest = absurd (let no : false ≡ true = sym is ∙ ap p same ∙ e in cc)
      go false is (inr c) rest = rest c

  -- and what is among those passes it and is among all
  pub from_filter : (p : X → Bool) (xs : List X) (x : X) → Contains (filter p xs) x → (p x ≡ true) × Contains xs x
  from_filter p [] x c = absurd (none_in x c)
  from_filter p (y ∷ xs) x c = go (p y) refl c (from_filter p xs x)
    where
      either : p y ≡ true → (y ≡ x) ⊎ Contains (filter p xs) x → (Contains (filter p xs) x → (p x ≡ true) × Contains xs x) → (p x ≡ true) × Contains (y ∷ xs) x
      either e (inl same) rest = (ap p (sym same) ∙ e, subst (Contains (y ∷ xs)) same (first_in y xs))
      either e (inr c) rest = let more = rest c in (more.0, later_in y xs x more.1)

      go : (b : Bool) → p y ≡ b → Contains (cond b (y ∷ filter p xs) (filter p xs)) x → (Contains (filter p xs) x → (p x ≡ true) × Contains xs x) → (p x ≡ true) × Contains (y ∷ xs) x
      go true e c rest = either e (in_cases y (filter p xs) x c) rest
      go false e c rest = let more = rest c in (more.0, later_in y xs x more.1)

-- the numbers of a range
pub in_range : (a n k : ℕ) → a ≤ k → k < a + n → Contains (range_with_len a n) k
in_range a zero k le lt = absurd (omega (arith, le, lt))
in_range a (suc n) k le lt = go (a == k) refl (in_range (a + 1) n k)
  where
    go : (b : Bool) → (a == k) ≡ b → (a + 1 ≤ k → k < a + 1 + n → Contains (range_with_len (a + 1) n) k) → Contains (a ∷ range_with_len (a + 1) n) k
    go true e rest = subst (Contains (a ∷ range_with_len (a + 1) n)) (same_number a k e) (first_in a (range_with_len (a + 1) n))
    go false e rest = let other = other_number a k e in later_in a (range_with_len (a + 1) n) k (rest (omega (arith, le, other)) (omega (arith, lt)))

-- what is in a range is a number from its start on, below its end
pub from_range : (a n k : ℕ) → Contains (range_with_len a n) k → (a ≤ k) × (k < a + n)
from_range a zero k c = absurd (none_in k c)
from_range a (suc n) k c = go (in_cases a (range_with_len (a + 1) n) k c) (from_range (a + 1) n k)
  where
    go : (a ≡ k) ⊎ Contains (range_with_len (a + 1) n) k → (Contains (range_with_len (a + 1) n) k → (a + 1 ≤ k) × (k < a + 1 + n)) → (a ≤ k) × (k < a + suc n)
    go (inl same) rest = (omega (arith, same), omega (arith, same))
    go (inr c) rest = let more = rest c in let le = more.0 in let lt = more.1 in (omega (arith, le), omega (arith, lt))

-- each number stands once
abbrev pub Once : List ℕ → Type 0
Once [] = ⊤
Once (x ∷ xs) = (Contains xs x → ⊥) × Once xs

-- numbers that differ from each other stand once
pub once_apart : (xs : List ℕ) → AllPairs (λ x y. x ≢ y) xs → Once xs
once_apart [] apart = tt
once_apart (x ∷ xs) apart = (
  (λ c. let lt = c.1 in apart 0 (suc c.0) x (omega arith) (omega (arith, lt)) (sym c.2)),
  once_apart xs (λ i j d lt below. apart (suc i) (suc j) d (omega (arith, lt)) (omega (arith, below))),
)

-- those that pass a test stand once
pub once_filter : (p : ℕ → Bool) (xs : List ℕ) → Once xs → Once (filter p xs)
once_filter p [] once = tt
once_filter p (x ∷ xs) once = go (p x) (once_filter p xs once.1)
  where
    go : (b : Bool) → Once (filter p xs) → Once (cond b (x ∷ filter p xs) (filter p xs))
    go true rest = ((λ c. once.0 (from_filter p xs x c).1), rest)
    go false rest = rest

-- the numbers of a range stand once
pub once_range : (a n : ℕ) → Once (range_with_len a n)
once_range a zero = tt
once_range a (suc n) = ((λ c. let le = (from_range (a + 1) n a c).0 in absurd (omega (arith, le))), once_range (a + 1) n)

-- two lists without a number in common
pub once_append : (xs ys : List ℕ) → Once xs → Once ys → ((n : ℕ) → Contains xs n → Contains ys n → ⊥) → Once (xs ++ ys)
once_append [] ys one two apart = two
once_append (x ∷ xs) ys one two apart = ((λ c. go (Contains-append_cases xs ys x c)), once_append xs ys one.1 two (λ n c d. apart n (later_in x xs n c) d))
  where
    go : Contains xs x ⊎ Contains ys x → ⊥
    go (inl c) = one.0 c
    go (inr c) = apart x (first_in x xs) c

-- numbers without one
abbrev without : ℕ → List ℕ → List ℕ
without x ys = filter (λ y. not (x == y)) ys

without_absent : (x : ℕ) (ys : List ℕ) → (Contains ys x → ⊥) → without x ys ≡ ys
without_absent x [] absent = refl
without_absent x (y ∷ ys) absent =
    ap (λ b. cond (not b) (y ∷ without x ys) (without x ys)) (is_other x y (λ same. absent (subst (Contains (y ∷ ys)) (sym same) (first_in y ys)))) ∙ ap (λ zs. y ∷ zs) (without_absent x ys (λ c. absent (later_in y ys x c)))

-- a number that stands once, taken out in front
taken_out : (x : ℕ) (ys : List ℕ) → Once ys → Contains ys x → IsPermutation (x ∷ without x ys) ys
taken_out x [] once c = absurd (none_in x c)
taken_out x (y ∷ ys) once c = go (x == y) refl (in_cases y ys x c) (taken_out x ys once.1)
  where
    go : (b : Bool) → (x == y) ≡ b → (y ≡ x) ⊎ Contains ys x → (Contains ys x → IsPermutation (x ∷ without x ys) ys) → IsPermutation (x ∷ cond (not b) (y ∷ without x ys) (without x ys)) (y ∷ ys)
    go true e c rest = let same = same_number x y e in permuted_from (ap (λ zs. x ∷ zs) (without_absent x ys (λ d. once.0 (subst (Contains ys) same d))) ∙ ap (λ z. z ∷ ys) same) (IsPermutation-refl (y ∷ ys))
    go false e (inl same) rest = absurd (other_number x y e (sym same))
    go false e (inr c) rest = IsPermutation-trans _ _ _ (IsPermutation-sym _ _ (IsPermutation-middle (y ∷ []) x (without x ys))) (IsPermutation-cons y (x ∷ without x ys) ys (rest c))

-- numbers without those of a list
abbrev pub outside : List ℕ → List ℕ → List ℕ
outside [] ys = ys
outside (x ∷ xs) ys = outside xs (without x ys)

-- they are in the one list and not in the other
pub from_outside : (xs ys : List ℕ) (n : ℕ) → Contains (outside xs ys) n → Contains ys n × (Contains xs n → ⊥)
from_outside [] ys n c = (c, none_in n)
from_outside (x ∷ xs) ys n c =
    let rest = from_outside xs (without x ys) n c in
    let kept = from_filter (λ y. not (x == y)) ys n rest.0 in (kept.1, λ d. go kept.0 rest.1 (in_cases x xs n d))
  where
    go : not (x == n) ≡ true → (Contains xs n → ⊥) → (x ≡ n) ⊎ Contains xs n → ⊥
    go e absent (inl same) = let no : not (x == x) ≡ true = ap (λ k. not (x == k)) same ∙ e in absurd (let never : false ≡ true = ap not (sym (self_equal x)) ∙ no in cc)
    go e absent (inr c) = absent c

-- numbers that stand once, and those that are left, are all
pub with_others : (xs ys : List ℕ) → Once xs → Once ys → ((n : ℕ) → Contains xs n → Contains ys n) → IsPermutation (xs ++ outside xs ys) ys
with_others [] ys one two are = IsPermutation-refl ys
with_others (x ∷ xs) ys one two are =
    IsPermutation-trans _ _ _ (IsPermutation-cons x (xs ++ outside xs (without x ys)) (without x ys) (with_others xs (without x ys) one.1 (once_filter (λ y. not (x == y)) ys two) kept)) (taken_out x ys two (are x (first_in x xs)))
  where
    kept : (n : ℕ) → Contains xs n → Contains (without x ys) n
    kept n c = in_filter (λ y. not (x == y)) ys n (ap not (is_other x n (λ same. one.0 (subst (Contains xs) (sym same) c)))) (are n (later_in x xs n c))
