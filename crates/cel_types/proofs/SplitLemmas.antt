-- Lists that are cut at a place.
use Rattle.std.proofs.Common.{◌≡◌, ◌∙◌, ◌+◌, ℕ, zero, suc, List, [], ◌∷◌, ◌++◌, Bool, true, false, filter, map, take, drop, refl, sym, ap, inl, inr, add-one}
use Rattle.std.specs.Prelude.{Some, slice_get}
use Rattle.std.proofs.lemmas.Bool.{cases_Bool}
use Rattle.std.proofs.lemmas.List.{map-append}

-- one item more
pub take-at : {X : Type 0} (xs : List X) (i : ℕ) (x : X) → slice_get xs i ≡ Some x → take (i + 1) xs ≡ take i xs ++ x ∷ []
take-at [] i x at = cc
take-at (y ∷ xs) zero x at = let e : y ≡ x = cc in rw e refl
take-at (y ∷ xs) (suc i) x at = rw add-one (ap (λ zs. y ∷ zs) (rw add-one at (take-at xs i x at)))

-- what stands before a place, the item there, and what follows
pub split-at : {X : Type 0} (xs : List X) (i : ℕ) (x : X) → slice_get xs i ≡ Some x → (take i xs ++ x ∷ []) ++ drop (i + 1) xs ≡ xs
split-at [] i x at = cc
split-at (y ∷ xs) zero x at = let e : y ≡ x = cc in rw e refl
split-at (y ∷ xs) (suc i) x at = rw add-one (ap (λ zs. y ∷ zs) (rw add-one at (split-at xs i x at)))

-- one more image
pub map-at : {X Y : Type 0} (f : X → Y) (xs : List X) (i : ℕ) (x : X) → slice_get xs i ≡ Some x → map f (take (i + 1) xs) ≡ map f (take i xs) ++ f x ∷ []
map-at f xs i x at = ap (map f) (take-at xs i x at) ∙ map-append f (take i xs) (x ∷ [])

-- the images before a place, the one there, and those that follow
pub map-split : {X Y : Type 0} (f : X → Y) (xs : List X) (i : ℕ) (x : X) → slice_get xs i ≡ Some x → (map f (take i xs) ++ f x ∷ []) ++ map f (drop (i + 1) xs) ≡ map f xs
map-split f xs i x at =
    ap (λ front. front ++ map f (drop (i + 1) xs)) (sym (map-append f (take i xs) (x ∷ []))) ∙ sym (map-append f (take i xs ++ x ∷ []) (drop (i + 1) xs)) ∙ ap (map f) (split-at xs i x at)

-- one item more that doesn't pass, where none did
pub filter-free : {X : Type 0} (p : X → Bool) (xs : List X) (i : ℕ) (x : X) → slice_get xs i ≡ Some x → p x ≡ false → filter p (take i xs) ≡ [] → filter p (take (i + 1) xs) ≡ []
filter-free p [] i x at fails none = cc
filter-free p (y ∷ xs) zero x at fails none = let e : y ≡ x = cc in rw (e, fails) refl
filter-free p (y ∷ xs) (suc i) x at fails none =
    elim (cases_Bool (p y)) [
      | inl passes ↦ let found = rw passes at none in cc
      | inr past ↦ rw (add-one, past) (rw add-one at (filter-free p xs i x at fails (rw past at none)))
    ]

-- the first item that passes, where none did before
pub filter-found : {X : Type 0} (p : X → Bool) (xs : List X) (i : ℕ) (x : X) → slice_get xs i ≡ Some x → p x ≡ true → filter p (take i xs) ≡ [] → filter p xs ≡ x ∷ filter p (drop (i + 1) xs)
filter-found p [] i x at passes none = cc
filter-found p (y ∷ xs) zero x at passes none = let e : y ≡ x = cc in rw (e, passes) refl
filter-found p (y ∷ xs) (suc i) x at passes none =
    elim (cases_Bool (p y)) [
      | inl there ↦ let found = rw there at none in cc
      | inr past ↦ rw (add-one, past) (rw add-one at (filter-found p xs i x at passes (rw past at none)))
    ]
