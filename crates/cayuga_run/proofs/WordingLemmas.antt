-- Names that are joined.
use Rattle.std.proofs.Common.{◌≡◌, ap, refl, ℕ, List, [], ◌∷◌, ◌++◌, map}
use Rattle.std.specs.List.{flat_map, join_by}

-- what each piece gives, from what stands for the piece
flat_map-map : {X Y A : Type 0} (f : X → Y) (g : Y → List A) (xs : List X) → flat_map (λ x. g (f x)) xs ≡ flat_map g (map f xs)
flat_map-map f g [] = refl
flat_map-map f g (x ∷ xs) = ap (λ rest. g (f x) ++ rest) (flat_map-map f g xs)

-- pieces are joined by what stands for each
pub join_by-map : {X : Type 0} (f : X → List ℕ) (separator : List ℕ) (xs : List X) → join_by f separator xs ≡ join_by (λ (x : List ℕ). x) separator (map f xs)
join_by-map f separator [] = refl
join_by-map f separator (x ∷ xs) = ap (λ rest. f x ++ rest) (flat_map-map f (λ piece. separator ++ piece) xs)
