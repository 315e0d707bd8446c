-- Lists that are given of each number.
use Rattle.std.proofs.Common.{◌≡◌, ◌∙◌, sym, ap, refl, subst, ℕ, zero, suc, ◌+◌, ◌<◌, ◌≤◌, ◌==◌, ◌||◌, not, Bool, true, false, cond, nat_lt, List, [], ◌∷◌, ◌++◌, map, append_assoc, append-nil, arith}
use Rattle.std.specs.Prelude.{Option, Some, None}
use Rattle.std.specs.List.{All, filter, flat_map, range_with_len}
use Rattle.std.proofs.lemmas.List.Elements.{All-cons, All-nil}
use Rattle.std.specs.List.Sorted.{IsPermutation}
use Rattle.std.proofs.lemmas.Bool.Decides.{nat_tests}
use Rattle.std.proofs.lemmas.Grind.{flat_map-append}
use Rattle.std.proofs.lemmas.List.{map-append}
use Rattle.std.proofs.lemmas.List.Sorted.{IsPermutation-append, IsPermutation-append_comm, IsPermutation-append_left, IsPermutation-append_right, IsPermutation-refl, IsPermutation-trans}
use Rattle.event_types.proofs.NumberLemmas.{is_below, other_number, same_number}
use Rattle.scalar_expr.proofs.Bags.{flat_map_each, permuted_from, permuted_to}
use Rattle.static_index.specs.Conditions.{Condition, ids_of, with_condition, without}
use Rattle.static_index.specs.declared.fixed_part.FixedPart.{FixedPart}
use Rattle.stream_readers.specs.Filing.{has_id}
use Rattle.stream_readers.proofs.FilingLemmas.{numbers_more}

module _ {X : Type 0} where
  -- what is given of each number below this one
  abbrev pub given_below : (ℕ → List X) → ℕ → List X
  given_below f n = flat_map f (range_with_len 0 n)

  -- what gives nothing of a number, gives nothing more
  pub given_more : (f : ℕ → List X) (n m : ℕ) → ((k : ℕ) → n ≤ k → f k ≡ []) → given_below f (n + m) ≡ given_below f n
  given_more f n zero none = ap (given_below f) (let e : n + 0 ≡ n = omega arith in e)
  given_more f n (suc m) none =
      ap (given_below f) (let e : n + suc m ≡ (n + m) + 1 = omega arith in e) ∙ ap (flat_map f) (numbers_more (n + m)) ∙ flat_map-append f (range_with_len 0 (n + m)) ((n + m) ∷ [])
      ∙ ap (λ xs. given_below f (n + m) ++ (xs ++ [])) (none (n + m) (omega arith)) ∙ append-nil (given_below f (n + m)) ∙ given_more f n m none

  -- so as far as another number
  pub given_alike : (f g : ℕ → List X) (n m : ℕ) → ((k : ℕ) → g k ≡ f k) → ((k : ℕ) → n ≤ k → f k ≡ []) → ((k : ℕ) → m ≤ k → g k ≡ []) → given_below g m ≡ given_below f n
  given_alike f g n m same none none' =
      sym (given_more g m n none') ∙ flat_map_each g f same (range_with_len 0 (m + n)) ∙ ap (given_below f) (let e : m + n ≡ n + m = omega arith in e) ∙ given_more f n m none

  -- and where each gives it in another order
  pub given_permuted : (f g : ℕ → List X) (n m : ℕ) → ((k : ℕ) → IsPermutation (f k) (g k)) → ((k : ℕ) → n ≤ k → f k ≡ []) → ((k : ℕ) → m ≤ k → g k ≡ []) → IsPermutation (given_below f n) (given_below g m)
  given_permuted f g n m same none none' =
      permuted_from (sym (given_more f n m none) ∙ ap (given_below f) (let e : n + m ≡ m + n = omega arith in e)) (permuted_to (each (range_with_len 0 (m + n))) (given_more g m n none'))
    where
      each : (numbers : List ℕ) → IsPermutation (flat_map f numbers) (flat_map g numbers)
      each [] = IsPermutation-refl []
      each (k ∷ numbers) = IsPermutation-append (f k) (g k) (flat_map f numbers) (flat_map g numbers) (same k) (each numbers)

  -- numbers past one
  rest_same : (f g : ℕ → List X) (n a len : ℕ) → ((k : ℕ) → (k ≡ n → ⊥) → g k ≡ f k) → n < a → flat_map g (range_with_len a len) ≡ flat_map f (range_with_len a len)
  rest_same f g n a zero same lt = refl
  rest_same f g n a (suc len) same lt = ap (λ xs. xs ++ flat_map g (range_with_len (a + 1) len)) (same a (λ e. absurd (omega arith))) ∙ ap (λ xs. f a ++ xs) (rest_same f g n (a + 1) len same (omega arith))

  some_more : (f g : ℕ → List X) (n : ℕ) (xs : List X) (a len : ℕ) → IsPermutation (g n) (f n ++ xs) → ((k : ℕ) → (k ≡ n → ⊥) → g k ≡ f k) → a ≤ n → n < a + len
      → IsPermutation (flat_map g (range_with_len a len)) (flat_map f (range_with_len a len) ++ xs)
  some_more f g n xs a zero here same le lt = absurd (omega arith)
  some_more f g n xs a (suc len) here same le lt = go (some_more f g n xs (a + 1) len here same) (a == n) refl
    where
      rest : List X
      rest = flat_map f (range_with_len (a + 1) len)

      go : (a + 1 ≤ n → n < (a + 1) + len → IsPermutation (flat_map g (range_with_len (a + 1) len)) (rest ++ xs)) → (b : Bool) → (a == n) ≡ b → IsPermutation (flat_map g (range_with_len a (suc len))) (flat_map f (range_with_len a (suc len)) ++ xs)
      go more true is =
          let e = same_number a n is in
          permuted_from (ap (λ ys. g a ++ ys) (rest_same f g n (a + 1) len same (omega arith)))
          (IsPermutation-trans _ _ _ (IsPermutation-append_left rest (g a) (f a ++ xs) (subst (λ (k : ℕ). IsPermutation (g k) (f k ++ xs)) (sym e) here))
          (permuted_from (append_assoc (f a) xs rest) (permuted_to (IsPermutation-append_right (f a) (xs ++ rest) (rest ++ xs) (IsPermutation-append_comm xs rest)) (sym (append_assoc (f a) rest xs)))))
      go more false differs =
          let other = other_number a n differs in
          permuted_from (ap (λ ys. ys ++ flat_map g (range_with_len (a + 1) len)) (same a other))
          (permuted_to (IsPermutation-append_right (f a) (flat_map g (range_with_len (a + 1) len)) (rest ++ xs) (more (apart a n le other) (omega arith))) (sym (append_assoc (f a) rest xs)))
        where
          apart : (a n : ℕ) → a ≤ n → (a ≡ n → ⊥) → a + 1 ≤ n
          apart a n le other = omega (arith, other)

  -- what is given more of one number is given more of all
  pub given_at : (f g : ℕ → List X) (number : ℕ) (xs : List X) (n m : ℕ) → IsPermutation (g number) (f number ++ xs) → ((k : ℕ) → (k ≡ number → ⊥) → g k ≡ f k) → number < m → ((k : ℕ) → n ≤ k → f k ≡ []) → ((k : ℕ) → m ≤ k → g k ≡ [])
      → IsPermutation (given_below g m) (given_below f n ++ xs)
  given_at f g number xs n m here same lt none none' =
      permuted_from (sym (given_more g m n none'))
      (permuted_to (some_more f g number xs 0 (m + n) here same (omega arith) (omega arith)) (ap (λ ys. ys ++ xs) (ap (given_below f) (let e : m + n ≡ n + m = omega arith in e) ∙ given_more f n m none)))

-- what is given of what is given
pub given_twice : {X Y : Type 0} (h : X → List Y) (f : ℕ → List X) (numbers : List ℕ) → flat_map h (flat_map f numbers) ≡ flat_map (λ k. flat_map h (f k)) numbers
given_twice h f [] = refl
given_twice h f (k ∷ numbers) = flat_map-append h (f k) (flat_map f numbers) ∙ ap (λ ys. flat_map h (f k) ++ ys) (given_twice h f numbers)

-- what is filed of the numbers that pass a test
pub passing_given : {X Y : Type 0} (p : ℕ → Bool) (f : X → Y) (g : ℕ → List X) (numbers : List ℕ) → map f (flat_map g (filter p numbers)) ≡ flat_map (λ k. cond (p k) (map f (g k)) []) numbers
passing_given p f g [] = refl
passing_given p f g (k ∷ numbers) = go (passing_given p f g numbers) (p k)
  where
    rest : List ℕ
    rest = filter p numbers

    go : map f (flat_map g rest) ≡ flat_map (λ k. cond (p k) (map f (g k)) []) numbers → (b : Bool) → map f (flat_map g (cond b (k ∷ rest) rest)) ≡ cond b (map f (g k)) [] ++ flat_map (λ k. cond (p k) (map f (g k)) []) numbers
    go more true = map-append f (g k) (flat_map g rest) ∙ ap (λ ys. map f (g k) ++ ys) more
    go more false = more

pub passing_one : {Y : Type 0} (p : ℕ → Bool) (f : ℕ → Y) (numbers : List ℕ) → map f (filter p numbers) ≡ flat_map (λ k. cond (p k) (f k ∷ []) []) numbers
passing_one p f [] = refl
passing_one p f (k ∷ numbers) = go (passing_one p f numbers) (p k)
  where
    rest : List ℕ
    rest = filter p numbers

    go : map f rest ≡ flat_map (λ k. cond (p k) (f k ∷ []) []) numbers → (b : Bool) → map f (cond b (k ∷ rest) rest) ≡ cond b (f k ∷ []) [] ++ flat_map (λ k. cond (p k) (f k ∷ []) []) numbers
    go more true = ap (λ ys. f k ∷ ys) more
    go more false = more

-- the condition of a number, where it has these parts
abbrev pub row_of : ℕ → Option (List FixedPart) → List Condition
row_of id None = []
row_of id (Some parts) = record { id = id; parts = parts } ∷ []

-- the conditions of numbers
abbrev pub rows : (ℕ → Option (List FixedPart)) → List ℕ → List Condition
rows asked numbers = flat_map (λ k. row_of k (asked k)) numbers

before_rest : (asked : ℕ → Option (List FixedPart)) (n : ℕ) (parts : List FixedPart) (a len : ℕ) → n < a → with_condition (record { id = n; parts = parts }) (rows asked (range_with_len a len)) ≡ record { id = n; parts = parts } ∷ rows asked (range_with_len a len)
before_rest asked n parts a zero lt = refl
before_rest asked n parts a (suc len) lt = go (before_rest asked n parts (a + 1) len (omega arith)) (asked a)
  where
    rest : List Condition
    rest = rows asked (range_with_len (a + 1) len)

    go : with_condition (record { id = n; parts = parts }) rest ≡ record { id = n; parts = parts } ∷ rest → (o : Option (List FixedPart)) → with_condition (record { id = n; parts = parts }) (row_of a o ++ rest) ≡ record { id = n; parts = parts } ∷ (row_of a o ++ rest)
    go more None = more
    go more (Some own) = ap (λ b. cond b (record { id = n; parts = parts } ∷ record { id = a; parts = own } ∷ rest) (record { id = a; parts = own } ∷ with_condition (record { id = n; parts = parts }) rest)) (is_below n a lt)

module _ (old new : ℕ → Option (List FixedPart)) (n : ℕ) (same : (k : ℕ) → (k ≡ n → ⊥) → new k ≡ old k) where
  row_comes : (parts : List FixedPart) (a len : ℕ) → old n ≡ None → new n ≡ Some parts → a ≤ n → n < a + len → with_condition (record { id = n; parts = parts }) (rows old (range_with_len a len)) ≡ rows new (range_with_len a len)
  row_comes parts a zero was is le lt = absurd (omega arith)
  row_comes parts a (suc len) was is le lt = go (row_comes parts (a + 1) len was is) (a == n) refl
    where
      one : Condition
      one = record { id = n; parts = parts }

      rest : List Condition
      rest = rows old (range_with_len (a + 1) len)

      apart : (a n : ℕ) → a ≤ n → (a ≡ n → ⊥) → a < n
      apart a n le other = omega (arith, other)

      past : {m n : ℕ} → n < m → nat_lt m n ≡ false
      past {m} {n} lt = grind (arith, nat_tests)

      later : with_condition one rest ≡ rows new (range_with_len (a + 1) len) → a < n → (o : Option (List FixedPart)) → with_condition one (row_of a o ++ rest) ≡ row_of a o ++ rows new (range_with_len (a + 1) len)
      later more less None = more
      later more less (Some own) = ap (λ b. cond b (one ∷ record { id = a; parts = own } ∷ rest) (record { id = a; parts = own } ∷ with_condition one rest)) (past less) ∙ ap (λ cs. record { id = a; parts = own } ∷ cs) more

      go : (a + 1 ≤ n → n < (a + 1) + len → with_condition one rest ≡ rows new (range_with_len (a + 1) len)) → (b : Bool) → (a == n) ≡ b → with_condition one (rows old (range_with_len a (suc len))) ≡ rows new (range_with_len a (suc len))
      go more true e =
          let here = same_number a n e in
          ap (λ o. with_condition one (row_of a o ++ rest)) (ap old here ∙ was) ∙ before_rest old n parts (a + 1) len (omega arith)
          ∙ ap (λ cs. one ∷ cs) (sym (rest_same (λ k. row_of k (old k)) (λ k. row_of k (new k)) n (a + 1) len (λ k other. ap (row_of k) (same k other)) (omega arith)))
          ∙ sym (ap (λ o. row_of a o ++ rows new (range_with_len (a + 1) len)) (ap new here ∙ is) ∙ ap (λ k. record { id = k; parts = parts } ∷ rows new (range_with_len (a + 1) len)) here)
      go more false e = let other = other_number a n e in later (more (omega (arith, apart a n le other)) (omega arith)) (apart a n le other) (old a) ∙ ap (λ o. row_of a o ++ rows new (range_with_len (a + 1) len)) (sym (same a other))

  -- the condition of a number comes
  pub row_given : (parts : List FixedPart) (m m' : ℕ) → old n ≡ None → new n ≡ Some parts → n < m' → ((k : ℕ) → m ≤ k → old k ≡ None) → ((k : ℕ) → m' ≤ k → new k ≡ None)
      → with_condition (record { id = n; parts = parts }) (given_below (λ k. row_of k (old k)) m) ≡ given_below (λ k. row_of k (new k)) m'
  row_given parts m m' was is lt none none' =
      ap (with_condition (record { id = n; parts = parts })) (sym (given_more (λ k. row_of k (old k)) m m' (λ k le. ap (row_of k) (none k le))) ∙ ap (given_below (λ k. row_of k (old k))) (let e : m + m' ≡ m' + m = omega arith in e))
      ∙ row_comes parts 0 (m' + m) was is (omega arith) (omega arith) ∙ given_more (λ k. row_of k (new k)) m' m (λ k le. ap (row_of k) (none' k le))

  -- the condition of a number leaves
  pub row_left : (numbers : List ℕ) → new n ≡ None → without n (rows old numbers) ≡ rows new numbers
  row_left [] none = refl
  row_left (k ∷ numbers) none = go (row_left numbers none) (old k) refl (k == n) refl
    where
      rest : List Condition
      rest = rows new numbers

      go : without n (rows old numbers) ≡ rest → (o : Option (List FixedPart)) → old k ≡ o → (b : Bool) → (k == n) ≡ b → without n (row_of k o ++ rows old numbers) ≡ row_of k (new k) ++ rest
      go more None was true e = more ∙ ap (λ o. row_of k o ++ rest) (sym (ap new (same_number k n e) ∙ none))
      go more None was false e = more ∙ ap (λ o. row_of k o ++ rest) (sym (same k (other_number k n e) ∙ was))
      go more (Some own) was true e =
          ap (λ b. cond (not b) (record { id = k; parts = own } ∷ without n (rows old numbers)) (without n (rows old numbers))) e ∙ more ∙ ap (λ o. row_of k o ++ rest) (sym (ap new (same_number k n e) ∙ none))
      go more (Some own) was false e =
          ap (λ b. cond (not b) (record { id = k; parts = own } ∷ without n (rows old numbers)) (without n (rows old numbers))) e ∙ ap (λ cs. record { id = k; parts = own } ∷ cs) more
          ∙ ap (λ o. row_of k o ++ rest) (sym (same k (other_number k n e) ∙ was))

abbrev no_parts : Option (List FixedPart)
no_parts = None

-- a number whose condition is there, and one whose isn't
pub row_has : (asked : ℕ → Option (List FixedPart)) (n : ℕ) (parts : List FixedPart) (a len : ℕ) → asked n ≡ Some parts → a ≤ n → n < a + len → has_id n (rows asked (range_with_len a len)) ≡ true
row_has asked n parts a zero is le lt = absurd (omega arith)
row_has asked n parts a (suc len) is le lt = go (row_has asked n parts (a + 1) len is) (a == n) refl (asked a) refl
  where
    rest : List Condition
    rest = rows asked (range_with_len (a + 1) len)

    apart : (a n : ℕ) → a ≤ n → (a ≡ n → ⊥) → a + 1 ≤ n
    apart a n le other = omega (arith, other)

    or_true : (b : Bool) → (b || true) ≡ true
    or_true true = refl
    or_true false = refl

    go : (a + 1 ≤ n → n < (a + 1) + len → has_id n rest ≡ true) → (b : Bool) → (a == n) ≡ b → (o : Option (List FixedPart)) → asked a ≡ o → has_id n (row_of a o ++ rest) ≡ true
    go more true e None here = absurd (let f : no_parts ≡ Some parts = sym here ∙ ap asked (same_number a n e) ∙ is in cc)
    go more true e (Some own) here = ap (λ b. b || has_id n rest) e
    go more false e None here = more (apart a n le (other_number a n e)) (omega arith)
    go more false e (Some own) here = ap (λ b. (a == n) || b) (more (apart a n le (other_number a n e)) (omega arith)) ∙ or_true (a == n)

pub row_lacks : (asked : ℕ → Option (List FixedPart)) (n : ℕ) (numbers : List ℕ) → asked n ≡ None → has_id n (rows asked numbers) ≡ false
row_lacks asked n [] none = refl
row_lacks asked n (k ∷ numbers) none = go (row_lacks asked n numbers none) (asked k) refl (k == n) refl
  where
    rest : List Condition
    rest = rows asked numbers

    go : has_id n rest ≡ false → (o : Option (List FixedPart)) → asked k ≡ o → (b : Bool) → (k == n) ≡ b → has_id n (row_of k o ++ rest) ≡ false
    go more None here b e = more
    go more (Some own) here true e = absurd (let f : no_parts ≡ Some own = sym none ∙ ap asked (sym (same_number k n e)) ∙ here in cc)
    go more (Some own) here false e = ap (λ b. b || has_id n rest) e ∙ more

-- the numbers of conditions are those of which they are given
pub rows_below : (asked : ℕ → Option (List FixedPart)) (a len m : ℕ) → a + len ≤ m → All (λ k. k < m) (ids_of (rows asked (range_with_len a len)))
rows_below asked a zero m le = All-nil (λ k. k < m)
rows_below asked a (suc len) m le = go (rows_below asked (a + 1) len m (omega arith)) (asked a)
  where
    rest : List Condition
    rest = rows asked (range_with_len (a + 1) len)

    go : All (λ k. k < m) (ids_of rest) → (o : Option (List FixedPart)) → All (λ k. k < m) (ids_of (row_of a o ++ rest))
    go more None = more
    go more (Some own) = All-cons (λ k. k < m) a (ids_of rest) (omega arith) more

-- what is given of one number more
pub given_next : {X : Type 0} (f : ℕ → List X) (n : ℕ) → given_below f (n + 1) ≡ given_below f n ++ f n
given_next f n = ap (flat_map f) (numbers_more n) ∙ flat_map-append f (range_with_len 0 n) (n ∷ []) ∙ ap (λ xs. given_below f n ++ xs) (append-nil (f n))
