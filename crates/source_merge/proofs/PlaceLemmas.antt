-- Items at their places in a list.
use Rattle.std.proofs.Common.{◌≡◌, ap, refl, ℕ, zero, suc, ◌≤◌, drop, length, List, [], ◌∷◌, Some, slice_get, arith}
use Rattle.std.specs.Prelude.{slice_set}

-- what was put at a place stands there, by induction on the list
pub put_there : {X : Type 0} (xs : List X) (i : ℕ) (x y : X) → slice_get xs i ≡ Some y → slice_get (slice_set xs i x) i ≡ Some x
put_there [] i x y e = cc
put_there (z ∷ xs) zero x y e = refl
put_there (z ∷ xs) (suc i) x y e = put_there xs i x y e

-- at each other place stands what stood there, by induction on the list
pub put_elsewhere : {X : Type 0} (xs : List X) (i j : ℕ) (x : X) → (i ≡ j → ⊥) → slice_get (slice_set xs i x) j ≡ slice_get xs j
put_elsewhere [] i j x other = refl
put_elsewhere (z ∷ xs) zero zero x other = absurd (other refl)
put_elsewhere (z ∷ xs) zero (suc j) x other = refl
put_elsewhere (z ∷ xs) (suc i) zero x other = refl
put_elsewhere (z ∷ xs) (suc i) (suc j) x other = put_elsewhere xs i j x (λ e. other (ap suc e))

-- behind the first of the items from a place on stand those from the next place on, by induction on the list
pub drop_more : {X : Type 0} (xs : List X) (n : ℕ) (x : X) (more : List X) → drop n xs ≡ x ∷ more → (drop (suc n) xs ≡ more) × (suc n ≤ length xs)
drop_more [] zero x more e = cc
drop_more [] (suc n) x more e = cc
drop_more (z ∷ xs) zero x more e = (cc, omega arith)
drop_more (z ∷ xs) (suc n) x more e = let rest = drop_more xs n x more e in (rest.0, let few = rest.1 in omega (arith, few))
