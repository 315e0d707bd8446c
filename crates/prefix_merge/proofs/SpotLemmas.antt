-- Spots of ends, and numbers that are told.
use Rattle.std.proofs.Common.{◌≡◌, ◌⊎◌, ◌∙◌, sym, ap, refl, inl, inr, ℕ, true, false}
use Rattle.std.specs.Prelude.{Option, Some, None}
use Rattle.automaton.specs.States.{tells}
use Rattle.automaton.proofs.NumberLemmas.{are_same_or_not}
use Rattle.event_types.proofs.NumberLemmas.{is_same, same_number}
use Rattle.prefix_merge.specs.declared.holders.EndSpot.{EndSpot}

-- two spots are one, or they differ
pub are_one_spot : (a b : EndSpot) → (a ≡ b) ⊎ (a ≡ b → ⊥)
are_one_spot a b = by_state (are_same_or_not a.state b.state)
  where
    by_place : a.state ≡ b.state → (a.place ≡ b.place) ⊎ (a.place ≡ b.place → ⊥) → (a ≡ b) ⊎ (a ≡ b → ⊥)
    by_place state (inl place) = inl (λ i. record { state = state i; place = place i })
    by_place state (inr other) = inr (λ same. other (ap (λ (spot : EndSpot). spot.place) same))

    by_state : (a.state ≡ b.state) ⊎ (a.state ≡ b.state → ⊥) → (a ≡ b) ⊎ (a ≡ b → ⊥)
    by_state (inl state) = by_place state (are_same_or_not a.place b.place)
    by_state (inr other) = inr (λ same. other (ap (λ (spot : EndSpot). spot.state) same))

-- another spot of the same state has another place
pub other_place : (a b : EndSpot) → (a ≡ b → ⊥) → a.state ≡ b.state → a.place ≡ b.place → ⊥
other_place a b other state place = other (λ i. record { state = state i; place = place i })

-- what is told and what isn't
pub none_some : {X : Type 0} (x : X) → None ≡ Some x → ⊥
none_some x e = absurd (cc)

-- two that are told alike are one
pub some_is : {X : Type 0} (x y : X) → Some x ≡ Some y → x ≡ y
some_is x y e = cc

-- a number of which the test holds is told
pub told_is : (number : ℕ) (told : Option ℕ) → tells number told ≡ true → told ≡ Some number
told_is number None is = absurd (let no : false ≡ true = is in cc)
told_is number (Some other) is = ap (λ n. Some n) (same_number other number is)

-- and no other is
pub not_told : (number : ℕ) (told : Option ℕ) → tells number told ≡ false → told ≡ Some number → ⊥
not_told number told differs is = let no : true ≡ false = sym (is_same number number refl) ∙ ap (tells number) (sym is) ∙ differs in absurd (cc)
