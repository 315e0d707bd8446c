-- Lists of derivations that are compared from left to right.
use Rattle.std.proofs.Common.{◌≡◌, ◌∙◌, ap, ℕ, ◌+◌, ◌<◌, ◌≤◌, drop, get_or, length, List, [], ◌∷◌, map, arith}
use Rattle.std.specs.declared.cmp.Ordering.{Ordering}
use Rattle.std.specs.declared.cmp.Ordering.TheVariants.{Less, Equal, Greater}
use Rattle.std.specs.Ordering.{ordering_then}
use Rattle.std.proofs.lemmas.List.{drop_all, drop_more}
use Rattle.derivations.specs.Derivation.{Derivations, listed}
use Rattle.derivations.specs.DerivationOrder.{all_cmp, by_cmp}
use Rattle.derivations.specs.Views.{derivation_of}
use Rattle.derivations.specs.declared.deriv.Deriv.{Deriv}

-- a list of derivations as a term
abbrev pub all_of : List Deriv → Derivations
all_of xs = listed (map derivation_of xs)

-- what the rest of two lists decides
abbrev pub rest_cmp : ℕ → List Deriv → List Deriv → Ordering
rest_cmp place xs ys = all_cmp (all_of (drop place xs)) (all_of (drop place ys))

-- the items at a place decide, and else the rest behind them
pub rest_more : (xs ys : List Deriv) (place : ℕ) (x y : Deriv) → place < length xs → place < length ys → get_or xs place x ≡ x → get_or ys place y ≡ y
    → rest_cmp place xs ys ≡ ordering_then (by_cmp (derivation_of x) (derivation_of y)) (rest_cmp (place + 1) xs ys)
rest_more xs ys place x y one two is_x is_y =
    (λ i. all_cmp (all_of ((drop_more xs place x one ∙ ap (λ z. z ∷ drop (place + 1) xs) is_x) i)) (all_of ((drop_more ys place y two ∙ ap (λ z. z ∷ drop (place + 1) ys) is_y) i)))

-- a list that ends first stands before the other
pub second_ended : (xs ys : List Deriv) (place : ℕ) → place < length xs → length ys ≤ place → rest_cmp place xs ys ≡ Greater
second_ended [] ys place one two = absurd (omega (arith, one))
second_ended (x ∷ xs) ys place one two = λ i. all_cmp (all_of (drop_more (x ∷ xs) place x one i)) (all_of (drop_all place ys two i))

pub first_ended : (xs ys : List Deriv) (place : ℕ) → length xs ≤ place → place < length ys → rest_cmp place xs ys ≡ Less
first_ended xs [] place one two = absurd (omega (arith, two))
first_ended xs (y ∷ ys) place one two = λ i. all_cmp (all_of (drop_all place xs one i)) (all_of (drop_more (y ∷ ys) place y two i))

pub both_ended : (xs ys : List Deriv) (place : ℕ) → length xs ≤ place → length ys ≤ place → rest_cmp place xs ys ≡ Equal
both_ended xs ys place one two = λ i. all_cmp (all_of (drop_all place xs one i)) (all_of (drop_all place ys two i))
