-- Sums over numbers of a list in which each stands once.
use Rattle.std.proofs.Common.{◌≡◌, ◌∙◌, sym, ap, refl, subst, inl, inr, ℕ, zero, suc, ◌+◌, ◌<◌, ◌≤◌, ◌==◌, ◌⊎◌, cond, length, get_or, take, List, [], ◌∷◌, arith}
use Rattle.std.specs.Prelude.{Contains, sum_by}
use Rattle.std.specs.List.{All, range_with_len}
use Rattle.std.proofs.lemmas.List.Elements.{All-head, All-tail, Contains-append_left, Contains-append_right, Contains-push}
use Rattle.std.proofs.lemmas.List.Sums.{sum_by-cons}
use Rattle.event_types.proofs.NumberLemmas.{is_other, is_same}
use Rattle.automaton.proofs.NumberLemmas.{are_same_or_not}

-- the same of each number but one, which has none
abbrev but : (ℕ → ℕ) → ℕ → ℕ → ℕ
but f x k = cond (k == x) 0 (f k)

-- numbers behind that one have what they had, by induction on how many they are
but_later : (f : ℕ → ℕ) (x a n : ℕ) → x < a → sum_by (but f x) (range_with_len a n) ≡ sum_by f (range_with_len a n)
but_later f x a zero lt = refl
but_later f x a (suc n) lt =
    let one : but f x a ≡ f a = ap (λ b. cond b 0 (f a)) (is_other a x (λ e. absurd (omega (arith, e, lt)))) in
    let more = but_later f x (a + 1) n (omega (arith, lt)) in
    let left = sum_by-cons (but f x) a (range_with_len (a + 1) n) in
    let right = sum_by-cons f a (range_with_len (a + 1) n) in
    left ∙ (λ i. one i + more i) ∙ sym right

-- a sum over a range is what one number has and what the others have, by induction on the range
pub split_sum : (f : ℕ → ℕ) (x a n : ℕ) → a ≤ x → x < a + n → sum_by f (range_with_len a n) ≡ f x + sum_by (but f x) (range_with_len a n)
split_sum f x a zero le lt = absurd (omega (arith, le, lt))
split_sum f x a (suc n) le lt = go (are_same_or_not a x) (split_sum f x (a + 1) n)
  where
    left : sum_by f (range_with_len a (suc n)) ≡ f a + sum_by f (range_with_len (a + 1) n)
    left = sum_by-cons f a (range_with_len (a + 1) n)

    right : sum_by (but f x) (range_with_len a (suc n)) ≡ but f x a + sum_by (but f x) (range_with_len (a + 1) n)
    right = sum_by-cons (but f x) a (range_with_len (a + 1) n)

    go : (a ≡ x) ⊎ (a ≡ x → ⊥) → (a + 1 ≤ x → x < a + 1 + n → sum_by f (range_with_len (a + 1) n) ≡ f x + sum_by (but f x) (range_with_len (a + 1) n)) → sum_by f (range_with_len a (suc n)) ≡ f x + sum_by (but f x) (range_with_len a (suc n))
    go (inl same) more =
        let mine : f a ≡ f x = ap f same in
        let gone : but f x a ≡ 0 = ap (λ b. cond b 0 (f a)) (is_same a x same) in
        let later = but_later f x (a + 1) n (omega (arith, same)) in omega (arith, left, right, mine, gone, later)
    go (inr other) more =
        let kept : but f x a ≡ f a = ap (λ b. cond b 0 (f a)) (is_other a x other) in
        let rest = more (omega (arith, le, other)) (omega (arith, lt)) in omega (arith, left, right, kept, rest)

-- what numbers have among which the one isn't
but_absent : (f : ℕ → ℕ) (x : ℕ) (xs : List ℕ) → ((k : ℕ) → k < length xs → get_or xs k 0 ≡ x → ⊥) → sum_by f xs ≡ sum_by (but f x) xs
but_absent f x [] absent = refl
but_absent f x (y ∷ ys) absent =
    let one : f y ≡ but f x y = sym (ap (λ b. cond b 0 (f y)) (is_other y x (absent 0 (omega arith)))) in
    let more = but_absent f x ys (λ k lt. absent (suc k) (omega (arith, lt))) in
    sum_by-cons f y ys ∙ (λ i. one i + more i) ∙ sym (sum_by-cons (but f x) y ys)

-- numbers below a bound, each once, have no more than all numbers below it, by induction on the list
pub once_sum : (n : ℕ) (xs : List ℕ) (f : ℕ → ℕ) → All (λ x. x < n) xs → ((k : ℕ) → k < length xs → Contains (take k xs) (get_or xs k 0) → ⊥) → sum_by f xs ≤ sum_by f (range_with_len 0 n)
once_sum n [] f below once = omega arith
once_sum n (x ∷ xs) f below once =
    let first = All-head (λ y. y < n) x xs below in
    let split = split_sum f x 0 n (omega arith) (omega (arith, first)) in
    let rest = once_sum n xs (but f x) (All-tail (λ y. y < n) x xs below) (λ k lt c. once (suc k) (omega (arith, lt)) (Contains-append_right (x ∷ []) (take k xs) (get_or xs k 0) c)) in
    let same =
    but_absent f x xs (λ k lt e. once (suc k) (omega (arith, lt)) (subst (Contains (x ∷ take k xs)) (sym e) (Contains-append_left (x ∷ []) (take k xs) x (Contains-push [] x)))) in
    let cons = sum_by-cons f x xs in omega (arith, split, rest, same, cons)
