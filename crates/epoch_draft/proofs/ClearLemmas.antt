-- Lists that are emptied one by one.
use Rattle.std.proofs.Common.{◌≡◌, ◌∙◌, sym, refl, subst, inl, inr, ℕ, ◌+◌, ◌<◌, ◌⊎◌, length, get_or, set, take, List, [], arith}
use Rattle.std.specs.Prelude.{Contains}
use Rattle.std.proofs.lemmas.Grind.{get_or-set_at}
use Rattle.std.proofs.lemmas.List.{get_or-set_other, length-set}
use Rattle.automaton.proofs.NumberLemmas.{are_same_or_not}
use Rattle.epoch_draft.proofs.Lists.{more_contains}

-- the lists of these numbers are empty, and each other one is as it was
pub record Cleared {X : Type 0} (numbers : List ℕ) (old new : List (List X)) : Type 0 where
  pub as_many : length new ≡ length old
  pub each : (k : ℕ) → (get_or new k [] ≡ []) ⊎ (get_or new k [] ≡ get_or old k [])
  pub cleared : (k : ℕ) → Contains numbers k → get_or new k [] ≡ []

-- no list is emptied yet
pub clear_none : {X : Type 0} (lists : List (List X)) → Cleared [] lists lists
clear_none lists = record { as_many = refl; each = λ k. inr refl; cleared = λ k c. absurd (no_number k c) }
  where
    no_number : (k : ℕ) → Contains [] k → ⊥
    no_number k c = absurd (omega arith)

-- one more is empty
pub clear_more : {X : Type 0} (numbers : List ℕ) (i : ℕ) (first old : List (List X)) (rows : List X) → i < length numbers → get_or numbers i 0 < length first → rows ≡ [] → Cleared (take i numbers) first old
    → Cleared (take (i + 1) numbers) first (set old (get_or numbers i 0) rows)
clear_more {X} numbers i first old rows lt below none h = record {
  as_many = length-set old n rows ∙ h.as_many;
  each = λ k. each k (are_same_or_not k n);
  cleared = λ k c. cleared k (are_same_or_not k n) (more_contains numbers i 0 k lt c);
}
  where
    n : ℕ
    n = get_or numbers i 0

    here : (k : ℕ) → k ≡ n → get_or (set old n rows) k [] ≡ []
    here k same = get_or-set_at old n k rows [] same (omega (arith, below, h.as_many)) ∙ none

    each : (k : ℕ) → (k ≡ n) ⊎ (k ≡ n → ⊥) → (get_or (set old n rows) k [] ≡ []) ⊎ (get_or (set old n rows) k [] ≡ get_or first k [])
    each k (inl same) = inl (here k same)
    each k (inr other) = subst (λ (xs : List X). (xs ≡ []) ⊎ (xs ≡ get_or first k [])) (sym (get_or-set_other old n k rows [] other)) (h.each k)

    cleared : (k : ℕ) → (k ≡ n) ⊎ (k ≡ n → ⊥) → Contains (take i numbers) k ⊎ (n ≡ k) → get_or (set old n rows) k [] ≡ []
    cleared k (inl same) c = here k same
    cleared k (inr other) (inl c) = get_or-set_other old n k rows [] other ∙ h.cleared k c
    cleared k (inr other) (inr same) = absurd (other (sym same))

-- all are empty once those are that weren't
pub clear_all : {X : Type 0} (numbers : List ℕ) (old new : List (List X)) → ((k : ℕ) → (get_or old k [] ≡ []) ⊎ Contains numbers k) → Cleared numbers old new → (k : ℕ) → get_or new k [] ≡ []
clear_all numbers old new noted h k = go (noted k) (h.each k)
  where
    go : (get_or old k [] ≡ []) ⊎ Contains numbers k → (get_or new k [] ≡ []) ⊎ (get_or new k [] ≡ get_or old k []) → get_or new k [] ≡ []
    go none (inl e) = e
    go (inl none) (inr same) = same ∙ none
    go (inr c) (inr same) = h.cleared k c
