-- Numbers that are told apart, and lists that are written to.
use Rattle.std.proofs.Common.{◌≡◌, ◌∙◌, sym, ap, refl, subst, inl, inr, ℕ, zero, suc, ◌+◌, ◌<◌, ◌≤◌, ◌⊎◌, length, get_or, take, List, [], ◌∷◌, ◌++◌, map, arith}
use Rattle.std.specs.Prelude.{Contains, OnErr, OnOk, Some, Result, Ok, Err, slice_get}
use Rattle.std.proofs.lemmas.List.{length-append, map-append, take_more}
use Rattle.std.specs.List.{All}
use Rattle.std.proofs.lemmas.Option.{get_or_from_slice_get, slice_get_within}
use Rattle.std.proofs.lemmas.List.Elements.{All-get_or, Contains-append_cases, Contains-append_left, Contains-append_right, Contains-push, Contains-push_cases}
use Rattle.automaton.proofs.NumberLemmas.{are_same_or_not}

-- what stands under Some
pub some_is : {X : Type 0} (x y : X) → Some x ≡ Some y → x ≡ y
some_is x y e = cc

-- a list without items contains none
pub none_in : {X : Type 0} (x : X) → Contains [] x → ⊥
none_in x c = absurd (omega arith)

-- below the next number is below this one or it
pub below_or_last : (k n : ℕ) → k < n + 1 → (k < n) ⊎ (k ≡ n)
below_or_last k n lt = go (are_same_or_not k n)
  where
    go : (k ≡ n) ⊎ (k ≡ n → ⊥) → (k < n) ⊎ (k ≡ n)
    go (inl same) = inr same
    go (inr other) = inl (omega (arith, other))

module _ {X : Type 0} where
  -- an item of one place more
  pub more_contains : (xs : List X) (i : ℕ) (d x : X) → i < length xs → Contains (take (i + 1) xs) x → Contains (take i xs) x ⊎ (get_or xs i d ≡ x)
  more_contains xs i d x lt h = Contains-push_cases (take i xs) (get_or xs i d) x (subst (λ (ys : List X). Contains ys x) (take_more xs i d lt) h)

  -- an item of the places before
  pub contains_more : (xs : List X) (i : ℕ) (d x : X) → i < length xs → Contains (take i xs) x → Contains (take (i + 1) xs) x
  contains_more xs i d x lt h = subst (λ (ys : List X). Contains ys x) (sym (take_more xs i d lt)) (Contains-append_left (take i xs) (get_or xs i d ∷ []) x h)

  -- the item at this place
  pub contains_this : (xs : List X) (i : ℕ) (d : X) → i < length xs → Contains (take (i + 1) xs) (get_or xs i d)
  contains_this xs i d lt = subst (λ (ys : List X). Contains ys (get_or xs i d)) (sym (take_more xs i d lt)) (Contains-push (take i xs) (get_or xs i d))

  take_past : (xs : List X) (i : ℕ) → length xs ≤ i → take i xs ≡ xs
  take_past [] zero h = refl
  take_past [] (suc i) h = refl
  take_past (x ∷ xs) zero h = absurd (omega arith)
  take_past (x ∷ xs) (suc i) h = ap (λ ys. x ∷ ys) (take_past xs i (omega arith))

  -- all items were gone through
  pub taken_all : (xs : List X) (i : ℕ) → length xs ≤ i → take i xs ≡ xs
  taken_all xs i h = take_past xs i h

  -- one default more
  default_more : (d : X) (xs : List X) → ((k : ℕ) → get_or xs k d ≡ d) → (k : ℕ) → get_or (xs ++ d ∷ []) k d ≡ d
  default_more d [] h zero = refl
  default_more d [] h (suc k) = h k
  default_more d (x ∷ xs) h zero = h zero
  default_more d (x ∷ xs) h (suc k) = default_more d xs (λ j. h (suc j)) k

  -- a list of defaults with one more
  pub push_default : (d : X) (n : ℕ) (xs new : List X) → (length xs ≡ n) × ((k : ℕ) → get_or xs k d ≡ d) → new ≡ xs ++ d ∷ [] → (length new ≡ n + 1) × ((k : ℕ) → get_or new k d ≡ d)
  push_default d n xs new h e = (ap length e ∙ length-append xs (d ∷ []) ∙ ap (λ m. m + 1) h.0, λ k. ap (λ l. get_or l k d) e ∙ default_more d xs h.1 k)

-- a number is in a list or not
pub contains_or_not : (xs : List ℕ) (n : ℕ) → Contains xs n ⊎ (Contains xs n → ⊥)
contains_or_not [] n = inr (λ c. absurd (omega arith))
contains_or_not (x ∷ xs) n = go (are_same_or_not x n) (contains_or_not xs n)
  where
    one : Contains (x ∷ []) n → x ≡ n
    one c = first (Contains-push_cases [] x n c)
      where
        first : Contains [] n ⊎ (x ≡ n) → x ≡ n
        first (inl c) = absurd (omega arith)
        first (inr same) = same

    either : (x ≡ n → ⊥) → (Contains xs n → ⊥) → Contains (x ∷ []) n ⊎ Contains xs n → ⊥
    either other absent (inl c) = other (one c)
    either other absent (inr c) = absent c

    go : (x ≡ n) ⊎ (x ≡ n → ⊥) → Contains xs n ⊎ (Contains xs n → ⊥) → Contains (x ∷ xs) n ⊎ (Contains (x ∷ xs) n → ⊥)
    go (inl same) rest = inl (subst (Contains (x ∷ xs)) same (Contains-append_left (x ∷ []) xs x (Contains-push [] x)))
    go (inr other) (inl c) = inl (Contains-append_right (x ∷ []) xs n c)
    go (inr other) (inr absent) = inr (λ c. either other absent (Contains-append_cases (x ∷ []) xs n c))

-- one more item of a list that is mapped
pub map_more : {X Y : Type 0} (f : X → Y) (xs : List X) (i : ℕ) (d : X) → i < length xs → map f (take (i + 1) xs) ≡ map f (take i xs) ++ f (get_or xs i d) ∷ []
map_more f xs i d lt = ap (map f) (take_more xs i d lt) ∙ map-append f (take i xs) (get_or xs i d ∷ [])

-- what is promised of an Ok gives what follows from it
pub on_ok : {T E : Type 0} (r : Result T E) (P Q : Type 0) → (P → Q) → OnOk r P → OnOk r Q
on_ok (Ok x) P Q f h = f h
on_ok (Err e) P Q f h = h

-- what is promised of an Err gives what follows from it
pub on_err_by : {T E : Type 0} (r : Result T E) (P Q : Type 0) → (P → Q) → OnErr r P → OnErr r Q
on_err_by (Ok x) P Q f h = h
on_err_by (Err e) P Q f h = f h

-- what holds may be promised of an Ok
pub ok_holds : {T E : Type 0} (r : Result T E) (P : Type 0) → P → OnOk r P
ok_holds (Ok x) P holds = holds
ok_holds (Err e) P holds = tt

-- what holds may be promised of an Err
pub on_err : {T E : Type 0} (r : Result T E) (P : Type 0) → P → OnErr r P
on_err (Ok x) P holds = tt
on_err (Err e) P holds = holds

-- what follows both from what is promised of an Ok and from what is of an Err
pub on_both : {T E : Type 0} (r : Result T E) (P Q R : Type 0) → (P → R) → (Q → R) → OnOk r P → OnErr r Q → R
on_both (Ok x) P Q R f g h k = f h
on_both (Err e) P Q R f g h k = g k

-- what is promised of an Ok by two clauses
pub on_ok_two : {T E : Type 0} (r : Result T E) (P Q R : Type 0) → (P → Q → R) → OnOk r P → OnOk r Q → OnOk r R
on_ok_two (Ok x) P Q R f p q = f p q
on_ok_two (Err e) P Q R f p q = p

-- what is promised of an Ok by three clauses
pub on_ok_three : {T E : Type 0} (r : Result T E) (P Q R S : Type 0) → (P → Q → R → S) → OnOk r P → OnOk r Q → OnOk r R → OnOk r S
on_ok_three (Ok x) P Q R S f p q r = f p q r
on_ok_three (Err e) P Q R S f p q r = p

-- what is promised of an Ok by four clauses
pub on_ok_four : {T E : Type 0} (r : Result T E) (P Q R S U : Type 0) → (P → Q → R → S → U) → OnOk r P → OnOk r Q → OnOk r R → OnOk r S → OnOk r U
on_ok_four (Ok x) P Q R S U f p q s u = f p q s u
on_ok_four (Err e) P Q R S U f p q s u = p

-- what is promised of an Ok by five clauses
pub on_ok_five : {T E : Type 0} (r : Result T E) (P Q R S U V : Type 0) → (P → Q → R → S → U → V) → OnOk r P → OnOk r Q → OnOk r R → OnOk r S → OnOk r U → OnOk r V
on_ok_five (Ok x) P Q R S U V f p q s t u = f p q s t u
on_ok_five (Err e) P Q R S U V f p q s t u = p

-- what holds of all items holds of the one at a place
pub all_at : {X : Type 0} (P : X → Type 0) (xs : List X) (i : ℕ) (x : X) → All P xs → slice_get xs i ≡ Some x → P x
all_at P xs i x all e = subst P (get_or_from_slice_get xs i x x e) (All-get_or P xs i x (slice_get_within xs i x e) all)

-- the first so many of a list of defaults
pub taken_default : {X : Type 0} (d : X) (n : ℕ) (xs : List X) → ((k : ℕ) → get_or xs k d ≡ d) → (k : ℕ) → get_or (take n xs) k d ≡ d
taken_default d zero xs all k = refl
taken_default d (suc n) [] all k = refl
taken_default d (suc n) (x ∷ xs) all zero = all zero
taken_default d (suc n) (x ∷ xs) all (suc k) = taken_default d n xs (λ j. all (suc j)) k
