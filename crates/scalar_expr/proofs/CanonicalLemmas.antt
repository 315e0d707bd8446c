-- Sorting and dropping doubles, of predicates and of the terms that they are seen as.
use Rattle.std.proofs.Common.{◌≡◌, ◌∙◌, ap, refl, ◌+◌, ◌<◌, Bool, true, false, cond, length, arith, List, [], ◌∷◌, map}
use Rattle.std.specs.declared.cmp.Ordering.{Ordering}
use Rattle.std.specs.List.{dedup, dedup_from}
use Rattle.std.specs.List.Sorted.{IsSorted}
use Rattle.std.specs.Ordering.{is_lt, on}
use Rattle.std.proofs.lemmas.List.{get_or-map, length-map}

module _ {X Y : Type 0} (f : X → Y) where
  -- doubles may be dropped before or after the items are seen
  map-dedup : (same : Y → Y → Bool) (k : X) (xs : List X) → map f (dedup_from (λ x y. same (f x) (f y)) k xs) ≡ dedup_from same (f k) (map f xs)
  map-dedup same k [] = refl
  map-dedup same k (x ∷ xs) =
      elim (same (f x) (f k)) as (λ b. map f (cond b (dedup_from (λ x y. same (f x) (f y)) k xs) (k ∷ dedup_from (λ x y. same (f x) (f y)) x xs)) ≡ cond b (dedup_from same (f k) (map f xs)) (f k ∷ dedup_from same (f x) (map f xs))) [
        | true ↦ map-dedup same k xs
        | false ↦ ap (λ ys. f k ∷ ys) (map-dedup same x xs)
      ]

  -- the images of what differs by its images are what differs among the images
  pub map-dedup_all : (same : Y → Y → Bool) (xs : List X) → map f (dedup (λ x y. same (f x) (f y)) xs) ≡ dedup same (map f xs)
  map-dedup_all same [] = refl
  map-dedup_all same (x ∷ xs) = map-dedup same x xs

  -- items that are sorted as they are seen are seen sorted
  pub IsSorted-map : (R : Y → Y → Ordering) (xs : List X) → IsSorted (on f R) xs → IsSorted R (map f xs)
  IsSorted-map R [] up k d low high = absurd (omega arith)
  IsSorted-map R (x ∷ xs) up k d low high =
      let inside : k + 1 < length (x ∷ xs) = rw length-map at high in
      let later = get_or-map f (x ∷ xs) (k + 1) x d inside in
      let earlier = get_or-map f (x ∷ xs) k x d (omega arith) in
      (λ i. is_lt (R (later i) (earlier i))) ∙ up k x low inside
