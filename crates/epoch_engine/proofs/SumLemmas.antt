-- Sums over the states of a network.
use Rattle.std.proofs.Common.{◌≡◌, ◌∙◌, sym, ap, refl, ℕ, zero, suc, ◌+◌, false, length, get_or, List, [], ◌∷◌, map, arith}
use Rattle.std.specs.Prelude.{Contains, Some, None, sum_by}
use Rattle.std.proofs.lemmas.List.Sums.{sum_by-cons}
use Rattle.automaton.specs.States.{Net, is_used}
use Rattle.prefix_merge.proofs.ContainLemmas.{first_in, later_in}
use Rattle.prefix_merge.proofs.CountLemmas.{numbers_from}

-- a sum over images
pub sum_map : {X Y : Type 0} (f : Y → ℕ) (g : X → Y) (h : X → ℕ) (xs : List X) → ((x : X) → Contains xs x → f (g x) ≡ h x) → sum_by f (map g xs) ≡ sum_by h xs
sum_map f g h [] same = refl
sum_map f g h (x ∷ xs) same =
    let here = same x (first_in x xs) in
    let rest = sum_map f g h xs (λ y has. same y (later_in x xs y has)) in
    let left = sum_by-cons f (g x) (map g xs) in
    let right = sum_by-cons h x xs in omega (arith, here, rest, left, right)

next_number : (first k : ℕ) → first + 1 + k ≡ first + suc k
next_number first k = omega arith

module _ {X : Type 0} where
  no_item : (k : ℕ) → get_or {A = List X} [] k [] ≡ []
  no_item zero = refl
  no_item (suc k) = refl

  -- a sum over the numbers of states, from a number on, is the sum over lists that are empty elsewhere
  pub sum_states : (count : ℕ → ℕ) (net : Net) (lists : List (List X)) (first : ℕ) → ((k : ℕ) → count (first + k) ≡ length (get_or lists k [])) → ((k : ℕ) → is_used net k ≡ false → get_or lists k [] ≡ [])
      → sum_by count (numbers_from net first) ≡ sum_by length lists
  sum_states count [] [] first same none = refl
  sum_states count [] (xs ∷ lists) first same none =
      let here : length xs ≡ 0 = ap length (none 0 refl) in
      let rest = sum_states count [] lists (first + 1) (λ k. ap count (next_number first k) ∙ same (suc k)) (λ k used. none (suc k) refl) in
      let right = sum_by-cons length xs lists in omega (arith, here, rest, right)
  sum_states count (None ∷ net) [] first same none =
      sum_states count net [] (first + 1) (λ k. ap count (next_number first k) ∙ same (suc k) ∙ sym (ap length (no_item k))) (λ k used. no_item k)
  sum_states count (Some state ∷ net) [] first same none =
      let here = same 0 in
      let at : count first ≡ count (first + 0) = ap count (let e : first ≡ first + 0 = omega arith in e) in
      let rest = sum_states count net [] (first + 1) (λ k. ap count (next_number first k) ∙ same (suc k) ∙ sym (ap length (no_item k))) (λ k used. no_item k) in
      let left = sum_by-cons count first (numbers_from net (first + 1)) in omega (arith, here, at, rest, left)
  sum_states count (None ∷ net) (xs ∷ lists) first same none =
      let here : length xs ≡ 0 = ap length (none 0 refl) in
      let rest = sum_states count net lists (first + 1) (λ k. ap count (next_number first k) ∙ same (suc k)) (λ k used. none (suc k) used) in
      let right = sum_by-cons length xs lists in omega (arith, here, rest, right)
  sum_states count (Some state ∷ net) (xs ∷ lists) first same none =
      let here = same 0 in
      let at : count first ≡ count (first + 0) = ap count (let e : first ≡ first + 0 = omega arith in e) in
      let rest = sum_states count net lists (first + 1) (λ k. ap count (next_number first k) ∙ same (suc k)) (λ k used. none (suc k) used) in
      let left = sum_by-cons count first (numbers_from net (first + 1)) in
      let right = sum_by-cons length xs lists in omega (arith, here, at, rest, left, right)
