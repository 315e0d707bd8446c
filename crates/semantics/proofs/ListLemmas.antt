-- Filters of filters and of maps, and what holds of all items.
use Rattle.std.proofs.Common.{◌≡◌, ◌∙◌, sym, ap, refl, Bool, true, false, ◌&&◌, cond, List, [], ◌∷◌, ◌++◌, map}
use Rattle.std.specs.List.{All, filter, flat_map}
use Rattle.std.proofs.lemmas.List.Elements.{filter_agree, All-append, All-nil, All-cons, All-head, All-tail}

and_comm : (x y : Bool) → (x && y) ≡ (y && x)
and_comm true true = refl
and_comm true false = refl
and_comm false true = refl
and_comm false false = refl

-- what passes one test and then another passes both
pub filter-filter : {X : Type 0} (p q : X → Bool) (xs : List X) → filter p (filter q xs) ≡ filter (λ x. q x && p x) xs
filter-filter p q [] = refl
filter-filter {X} p q (x ∷ xs) =
    let both : X → Bool = λ x. q x && p x in
    elim (q x) as (λ b. filter p (cond b (x ∷ filter q xs) (filter q xs)) ≡ cond (b && p x) (x ∷ filter both xs) (filter both xs)) [
      | true ↦ ap (λ ys. cond (p x) (x ∷ ys) ys) (filter-filter p q xs)
      | false ↦ filter-filter p q xs
    ]

-- two filters may change places
pub filter_swap : {X : Type 0} (p q : X → Bool) (xs : List X) → filter p (filter q xs) ≡ filter q (filter p xs)
filter_swap p q xs = filter-filter p q xs ∙ filter_agree (λ x. q x && p x) (λ x. p x && q x) (λ x. and_comm (q x) (p x)) xs ∙ sym (filter-filter q p xs)

-- what a test keeps of the images is the images of what it keeps
pub filter-map : {X Y : Type 0} (p : Y → Bool) (f : X → Y) (xs : List X) → filter p (map f xs) ≡ map f (filter (λ x. p (f x)) xs)
filter-map p f [] = refl
filter-map {X} p f (x ∷ xs) =
    let kept = filter (λ (x : X). p (f x)) xs in
    elim (p (f x)) as (λ b. cond b (f x ∷ filter p (map f xs)) (filter p (map f xs)) ≡ map f (cond b (x ∷ kept) kept)) [
      | true ↦ ap (λ ys. f x ∷ ys) (filter-map p f xs)
      | false ↦ filter-map p f xs
    ]

-- the image of an item that may be kept
pub map-cond : {X Y : Type 0} (f : X → Y) (b : Bool) (x : X) → map f (cond b (x ∷ []) []) ≡ cond b (f x ∷ []) []
map-cond f true x = refl
map-cond f false x = refl

-- what holds of everything holds of all items
pub every : {X : Type 0} (P : X → Type 0) → ((x : X) → P x) → (xs : List X) → All P xs
every P h [] = All-nil P
every P h (x ∷ xs) = All-cons P x xs (h x) (every P h xs)

-- what holds of the items of two lists holds of those of the first
pub All-left : {X : Type 0} (P : X → Type 0) (xs ys : List X) → All P (xs ++ ys) → All P xs
All-left P [] ys all = All-nil P
All-left P (x ∷ xs) ys all = All-cons P x xs (All-head P x (xs ++ ys) all) (All-left P xs ys (All-tail P x (xs ++ ys) all))

-- and of those of the second
pub All-right : {X : Type 0} (P : X → Type 0) (xs ys : List X) → All P (xs ++ ys) → All P ys
All-right P [] ys all = all
All-right P (x ∷ xs) ys all = All-right P xs ys (All-tail P x (xs ++ ys) all)

-- what holds of all items that each element gives holds of all items
pub All-flat_map : {X Y : Type 0} (P : Y → Type 0) (f : X → List Y) (xs : List X) → All (λ x. All P (f x)) xs → All P (flat_map f xs)
All-flat_map P f [] all = All-nil P
All-flat_map P f (x ∷ xs) all = All-append P (f x) (flat_map f xs) (All-head (λ x. All P (f x)) x xs all) (All-flat_map P f xs (All-tail (λ x. All P (f x)) x xs all))
