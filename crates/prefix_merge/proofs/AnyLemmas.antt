-- Ends of a number that stand at a state.
use Rattle.std.proofs.Common.{◌≡◌, ◌⊎◌, ◌∙◌, ap, refl, inl, inr, ℕ, ◌+◌, ◌<◌, ◌≤◌, ◌==◌, Bool, true, false, ◌||◌, List, [], ◌∷◌, arith}
use Rattle.std.specs.Prelude.{count_by}
use Rattle.std.specs.List.{list_any}
use Rattle.automaton.specs.declared.network.End.{End}
use Rattle.automaton.specs.States.{Net, is_used}
use Rattle.automaton.proofs.CountLemmas.{bit, count-cons}
use Rattle.automaton.proofs.NumberLemmas.{are_same_or_not}
use Rattle.prefix_merge.specs.Merging.{ends_numbered}
use Rattle.prefix_merge.proofs.EndingLemmas.{ends_none}

-- some item passes where one is counted
module _ {X : Type 0} (p : X → Bool) where
  -- where an item passes, at least one counts
  pub any_counted : (xs : List X) → list_any p xs ≡ true → 1 ≤ count_by p xs
  any_counted [] has = absurd (let no : false ≡ true = has in cc)
  any_counted (x ∷ xs) has = go (any_counted xs) (p x) refl has
    where
      go : (list_any p xs ≡ true → 1 ≤ count_by p xs) → (b : Bool) → p x ≡ b → (b || list_any p xs) ≡ true → 1 ≤ count_by p (x ∷ xs)
      go rest true is has = let counted = count-cons p x xs in let one : bit (p x) ≡ 1 = ap bit is in omega (arith, counted, one)
      go rest false is has = let counted = count-cons p x xs in let more = rest has in omega (arith, counted, more)

  -- where none passes, none counts
  pub none_any : (xs : List X) → list_any p xs ≡ false → count_by p xs ≡ 0
  none_any [] none = refl
  none_any (x ∷ xs) none = go (none_any xs) (p x) refl none
    where
      go : (list_any p xs ≡ false → count_by p xs ≡ 0) → (b : Bool) → p x ≡ b → (b || list_any p xs) ≡ false → count_by p (x ∷ xs) ≡ 0
      go rest true is none = absurd (let no : true ≡ false = none in cc)
      go rest false is none = let counted = count-cons p x xs in let zero' : bit (p x) ≡ 0 = ap bit is in let more = rest none in omega (arith, counted, zero', more)

-- no end stands where no state is
pub none_unused : (net : Net) (number state : ℕ) → is_used net state ≡ false → ends_numbered net number state ≡ 0
none_unused net number state free = ap (count_by (λ (end : End). end.number == number)) (ends_none net state free)

-- none below a number, nor there
pub none_more : (net : Net) (number state : ℕ) → ((below : ℕ) → below < state → ends_numbered net number below ≡ 0) → ends_numbered net number state ≡ 0 → (below : ℕ) → below < state + 1 → ends_numbered net number below ≡ 0
none_more net number state before here below lt = by_number (are_same_or_not below state)
  where
    by_number : (below ≡ state) ⊎ (below ≡ state → ⊥) → ends_numbered net number below ≡ 0
    by_number (inl same) = ap (ends_numbered net number) same ∙ here
    by_number (inr ne) = before below (omega (arith, lt, ne))
