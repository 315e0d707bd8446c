-- Filters, maps and concatenations of lists.
use Rattle.std.proofs.Common.{◌≡◌, ◌∙◌, ap, refl, Bool, true, false, ◌&&◌, cond, List, [], ◌∷◌, ◌++◌, map}
use Rattle.std.specs.List.{All, filter, flat_map}
use Rattle.std.proofs.lemmas.Grind.{flat_map-append}
use Rattle.std.proofs.lemmas.List.{map-append}
use Rattle.std.proofs.lemmas.List.Elements.{filter-append, All-nil, All-cons, All-head, All-tail, All-append}

-- true changes nothing
pub and-true : (x : Bool) → (x && true) ≡ x
and-true true = refl
and-true false = refl

-- false beside anything is false
pub and-false : (x : Bool) → (x && false) ≡ false
and-false true = refl
and-false false = refl

module _ {X : Type 0} where
  -- a filter of what a filter keeps
  pub filter-filter : (p q : X → Bool) (xs : List X) → filter p (filter q xs) ≡ filter (λ x. q x && p x) xs
  filter-filter p q [] = refl
  filter-filter p q (x ∷ xs) =
      let both : X → Bool = λ x. q x && p x in
      elim (q x) as (λ b. filter p (cond b (x ∷ filter q xs) (filter q xs)) ≡ cond (b && p x) (x ∷ filter both xs) (filter both xs)) [
        | true ↦ ap (λ ys. cond (p x) (x ∷ ys) ys) (filter-filter p q xs)
        | false ↦ filter-filter p q xs
      ]

  -- what keeps nothing keeps none
  pub filter_none : (xs : List X) → filter (λ _. false) xs ≡ []
  filter_none [] = refl
  filter_none (x ∷ xs) = filter_none xs

  -- a filter whose test fails at each item keeps none
  pub filter_false : (p : X → Bool) (xs : List X) → All (λ x. p x ≡ false) xs → filter p xs ≡ []
  filter_false p [] all = refl
  filter_false p (x ∷ xs) all =
      ap (λ b. cond b (x ∷ filter p xs) (filter p xs)) (All-head (λ x. p x ≡ false) x xs all) ∙ filter_false p xs (All-tail (λ x. p x ≡ false) x xs all)

  -- two tests that agree at each item keep the same
  pub filter_alike : (p q : X → Bool) (xs : List X) → All (λ x. p x ≡ q x) xs → filter p xs ≡ filter q xs
  filter_alike p q [] all = refl
  filter_alike p q (x ∷ xs) all =
      let one = All-head (λ x. p x ≡ q x) x xs all in
      let more = filter_alike p q xs (All-tail (λ x. p x ≡ q x) x xs all) in
      λ i. cond (one i) (x ∷ more i) (more i)

  -- what holds of everything holds of each item
  pub every : (P : X → Type 0) → ((x : X) → P x) → (xs : List X) → All P xs
  every P h [] = All-nil P
  every P h (x ∷ xs) = All-cons P x xs (h x) (every P h xs)

  -- what holds of each item holds of the last one
  pub All_last : (P : X → Type 0) (xs : List X) (y : X) → All P (xs ++ y ∷ []) → P y
  All_last P [] y all = All-head P y [] all
  All_last P (x ∷ xs) y all = All_last P xs y (All-tail P x (xs ++ y ∷ []) all)

  -- a list of lists of one item each
  pub flat_map_each : (xs : List X) → flat_map (λ x. x ∷ []) xs ≡ xs
  flat_map_each [] = refl
  flat_map_each (x ∷ xs) = ap (λ ys. x ∷ ys) (flat_map_each xs)

module _ {X Y : Type 0} where
  -- what a filter keeps of a concatenation
  pub filter-flat_map : (p : Y → Bool) (f : X → List Y) (xs : List X) → filter p (flat_map f xs) ≡ flat_map (λ x. filter p (f x)) xs
  filter-flat_map p f [] = refl
  filter-flat_map p f (x ∷ xs) = filter-append p (f x) (flat_map f xs) ∙ ap (λ ys. filter p (f x) ++ ys) (filter-flat_map p f xs)

  -- what holds of all items of each list holds of all
  pub All-flat_map : (Q : Y → Type 0) (f : X → List Y) (xs : List X) → All (λ x. All Q (f x)) xs → All Q (flat_map f xs)
  All-flat_map Q f [] all = All-nil Q
  All-flat_map Q f (x ∷ xs) all =
      All-append Q (f x) (flat_map f xs) (All-head (λ x. All Q (f x)) x xs all) (All-flat_map Q f xs (All-tail (λ x. All Q (f x)) x xs all))

  -- items that fail a test and give nothing may be left out
  pub flat_map-filter : (test : X → Bool) (P : X → Type 0) (f g : X → List Y) → ((x : X) → P x → test x ≡ true → f x ≡ g x) → ((x : X) → P x → test x ≡ false → f x ≡ []) → (xs : List X) → All P xs → flat_map f xs ≡ flat_map g (filter test xs)
  flat_map-filter test P f g same none [] all = refl
  flat_map-filter test P f g same none (x ∷ xs) all = go (flat_map-filter test P f g same none xs (All-tail P x xs all)) (test x) refl
    where
      go : flat_map f xs ≡ flat_map g (filter test xs) → (b : Bool) → test x ≡ b → f x ++ flat_map f xs ≡ flat_map g (cond b (x ∷ filter test xs) (filter test xs))
      go rest true e = ap (λ ys. ys ++ flat_map f xs) (same x (All-head P x xs all) e) ∙ ap (λ ys. g x ++ ys) rest
      go rest false e = ap (λ ys. ys ++ flat_map f xs) (none x (All-head P x xs all) e) ∙ rest

  -- what holds of each image
  pub map_all : (P : Y → Type 0) (f : X → Y) (xs : List X) → All P (map f xs) → All (λ x. P (f x)) xs
  map_all P f [] all = All-nil (λ x. P (f x))
  map_all P f (x ∷ xs) all = All-cons (λ x. P (f x)) x xs (All-head P (f x) (map f xs) all) (map_all P f xs (All-tail P (f x) (map f xs) all))

module _ {X Y Z : Type 0} where
  -- a concatenation of concatenations
  pub flat_map-flat_map : (g : Y → List Z) (f : X → List Y) (xs : List X) → flat_map g (flat_map f xs) ≡ flat_map (λ x. flat_map g (f x)) xs
  flat_map-flat_map g f [] = refl
  flat_map-flat_map g f (x ∷ xs) = flat_map-append g (f x) (flat_map f xs) ∙ ap (λ zs. flat_map g (f x) ++ zs) (flat_map-flat_map g f xs)

  -- lists may be mapped before or after they are put together
  pub map-flat_map : (f : Y → Z) (g : X → List Y) (xs : List X) → map f (flat_map g xs) ≡ flat_map (λ x. map f (g x)) xs
  map-flat_map f g [] = refl
  map-flat_map f g (x ∷ xs) = map-append f (g x) (flat_map g xs) ∙ ap (λ zs. map f (g x) ++ zs) (map-flat_map f g xs)
