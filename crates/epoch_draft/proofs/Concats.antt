-- Lists that are put together.
use Rattle.std.proofs.Common.{◌≡◌, sym, ap, refl, Bool, true, false, cond, List, [], ◌∷◌, ◌++◌}
use Rattle.std.specs.Prelude.{Option, Some, None, option_to_list}
use Rattle.std.specs.List.{cons_option, filter, filter_map, flat_map}
use Rattle.std.specs.List.Sorted.{IsPermutation}
use Rattle.std.proofs.lemmas.List.Sorted.{IsPermutation-append_right, IsPermutation-refl, IsPermutation-sym, IsPermutation-trans}
use Rattle.scalar_expr.proofs.Bags.{permuted_to}
use Rattle.epoch_laws.proofs.Bags.{flat_map_parts}

module _ {X Z : Type 0} where
  -- items that give nothing
  pub nothing_of : (xs : List X) → flat_map {X = X} {A = Z} (λ x. []) xs ≡ []
  nothing_of [] = refl
  nothing_of (x ∷ xs) = nothing_of xs

  -- what only the items that pass a test give
  pub tested_of : (p : X → Bool) (g : X → List Z) (xs : List X) → flat_map (λ x. cond (p x) (g x) []) xs ≡ flat_map g (filter p xs)
  tested_of p g [] = refl
  tested_of p g (x ∷ xs) = go (tested_of p g xs) (p x)
    where
      go : flat_map (λ x. cond (p x) (g x) []) xs ≡ flat_map g (filter p xs) → (b : Bool) → cond b (g x) [] ++ flat_map (λ x. cond (p x) (g x) []) xs ≡ flat_map g (cond b (x ∷ filter p xs) (filter p xs))
      go rest true = ap (λ zs. g x ++ zs) rest
      go rest false = rest

  -- one test for all items
  pub one_test : (b : Bool) (g : X → List Z) (xs : List X) → flat_map (λ x. cond b (g x) []) xs ≡ cond b (flat_map g xs) []
  one_test true g xs = refl
  one_test false g xs = nothing_of xs

  -- items that give one or none
  pub options_of : (f : X → Option Z) (xs : List X) → flat_map (λ x. option_to_list (f x)) xs ≡ filter_map f xs
  options_of f [] = refl
  options_of f (x ∷ xs) = go (options_of f xs) (f x)
    where
      go : flat_map (λ x. option_to_list (f x)) xs ≡ filter_map f xs → (o : Option Z) → option_to_list o ++ flat_map (λ x. option_to_list (f x)) xs ≡ cons_option o (filter_map f xs)
      go rest None = rest
      go rest (Some z) = ap (λ zs. z ∷ zs) rest

-- pairs by the first and pairs by the second are the same up to order
pub pairs_turned : {X Y Z : Type 0} (f : X → Y → List Z) (xs : List X) (ys : List Y) → IsPermutation (flat_map (λ x. flat_map (f x) ys) xs) (flat_map (λ y. flat_map (λ x. f x y) xs) ys)
pairs_turned f [] ys = permuted_to (IsPermutation-refl []) (sym (nothing_of ys))
pairs_turned f (x ∷ xs) ys =
    IsPermutation-trans _ _ _
    (IsPermutation-append_right (flat_map (f x) ys) _ _ (pairs_turned f xs ys))
    (IsPermutation-sym _ _ (flat_map_parts (f x) (λ y. flat_map (λ x. f x y) xs) ys))
