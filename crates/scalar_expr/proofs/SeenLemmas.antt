-- Facts on a list whose items are seen through a function.
use Rattle.std.proofs.Common.{◌≡◌, ◌<◌, List, [], ◌∷◌, map, length, refl, ap}
use Rattle.std.proofs.Math.ListN.{get_or-map}
use Rattle.std.proofs.lemmas.List.{length-map}
use Rattle.std.proofs.lemmas.List.Elements.{All-same}
use Rattle.std.specs.List.{All}

-- what holds of each seen item holds of each item as it is seen
pub All-seen : {X Y : Type 0} (P : Y → Type 0) (f : X → Y) (xs : List X) (ys : List Y) → map f xs ≡ ys → All P ys → All (λ x. P (f x)) xs
All-seen P f xs ys e all k d lt =
    let inside : k < length (map f xs) = rw length-map lt in
    rw (← get_or-map f xs k d) (All-same P (map f xs) ys e all k (f d) inside)

-- g of each seen item
pub map-seen : {X Y Z : Type 0} (g : Y → Z) (f : X → Y) (xs : List X) → map (λ x. g (f x)) xs ≡ map g (map f xs)
map-seen g f [] = refl
map-seen g f (x ∷ xs) = ap (λ ys. g (f x) ∷ ys) (map-seen g f xs)
