-- Whether a number is among numbers.
use Rattle.std.proofs.Common.{◌≡◌, ◌≢◌, ◌∙◌, ℕ, zero, suc, ◌<◌, List, [], ◌∷◌, ◌++◌, Bool, true, false, ◌||◌, length, get_or, refl, ap, arith, subst}
use Rattle.std.specs.Prelude.{◌==◌, Contains}
use Rattle.std.proofs.Math.Bool.{or-false}
use Rattle.std.proofs.lemmas.List.Elements.{Contains-get_or}
use Rattle.std.proofs.lemmas.List.Folds.{list_any-append}
use Rattle.std.proofs.lemmas.Map.Views.{Contains-from_any}
use Rattle.resubscribe.specs.Order.{is_among}
use Rattle.event_types.proofs.NumberLemmas.{self_equal, is_other, same_number}

-- a number is among one more where it was, or is that one
pub among-push : (xs : List ℕ) (y q : ℕ) → is_among (xs ++ y ∷ []) q ≡ (is_among xs q || (q == y))
among-push xs y q = list_any-append (λ other. q == other) xs (y ∷ []) ∙ ap (λ b. is_among xs q || b) (or-false (q == y))

or-true : (b : Bool) → (b || true) ≡ true
or-true true = refl
or-true false = refl

-- what was put last is among them
pub among-pushed : (xs : List ℕ) (q : ℕ) → is_among (xs ++ q ∷ []) q ≡ true
among-pushed xs q = among-push xs q q ∙ ap (λ b. is_among xs q || b) (self_equal q) ∙ or-true (is_among xs q)

-- what is among them stays so
pub among-kept : (xs : List ℕ) (y q : ℕ) → is_among xs q ≡ true → is_among (xs ++ y ∷ []) q ≡ true
among-kept xs y q e = among-push xs y q ∙ ap (λ b. b || (q == y)) e

-- another number is among one more exactly where it was among them
pub among-other : (xs : List ℕ) (y q : ℕ) → q ≢ y → is_among (xs ++ y ∷ []) q ≡ is_among xs q
among-other xs y q ne = among-push xs y q ∙ ap (λ b. is_among xs q || b) (is_other q y ne) ∙ or-false (is_among xs q)

-- a number that is among others stands there
pub Contains-from_among : (xs : List ℕ) (q : ℕ) → is_among xs q ≡ true → Contains xs q
Contains-from_among xs q e = Contains-from_any {eq = ◌==◌} same_number q xs e

-- and the other way round
pub among-from_Contains : (xs : List ℕ) (q : ℕ) → Contains xs q → is_among xs q ≡ true
among-from_Contains [] q stands = absurd (omega arith)
among-from_Contains (x ∷ xs) q (zero, within, same) = ap (λ b. b || is_among xs q) (ap (λ y. q == y) same ∙ self_equal q)
among-from_Contains (x ∷ xs) q (suc k, within, same) =
    ap (λ b. (q == x) || b) (among-from_Contains xs q (k, omega arith, same)) ∙ or-true (q == x)

-- a number that isn't among others differs from each
pub apart : (xs : List ℕ) (q : ℕ) → is_among xs q ≡ false → (k : ℕ) (d : ℕ) → k < length xs → get_or xs k d ≢ q
apart xs q absent k d within same =
    let there : is_among xs q ≡ true = among-from_Contains xs q (subst (λ (y : ℕ). Contains xs y) same (Contains-get_or xs k d within)) in cc
