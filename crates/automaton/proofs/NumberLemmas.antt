-- What tests of numbers say.
use Rattle.std.proofs.Common.{◌≡◌, ◌⊎◌, ◌∙◌, ap, inl, inr, ℕ, ◌==◌, Bool, true, false, List, get_or}
use Rattle.std.specs.Prelude.{Some, position, slice_get}
use Rattle.std.proofs.lemmas.List.Quantifiers.{position-Some}
use Rattle.std.proofs.lemmas.Option.{slice_get-get_or}
use Rattle.event_types.proofs.NumberLemmas.{other_number, same_number}

-- two numbers are the same or not
pub are_same_or_not : (m n : ℕ) → (m ≡ n) ⊎ (m ≡ n → ⊥)
are_same_or_not m n = go (m == n) (same_number m n) (other_number m n)
  where
    go : (b : Bool) → (b ≡ true → m ≡ n) → (b ≡ false → m ≡ n → ⊥) → (m ≡ n) ⊎ (m ≡ n → ⊥)
    go true same other = inl (same (λ _. true))
    go false same other = inr (other (λ _. false))

-- a number stands at the place where it is found
pub found_at : (number : ℕ) (numbers : List ℕ) (place : ℕ) → position (λ other. other == number) numbers ≡ Some place → slice_get numbers place ≡ Some number
found_at number numbers place found =
    let first = position-Some (λ other. other == number) numbers place number found in
    slice_get-get_or numbers place number first.0 ∙ ap (λ n. Some n) (same_number (get_or numbers place number) number first.1)
