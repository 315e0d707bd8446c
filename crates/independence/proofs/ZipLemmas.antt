-- Lists whose items are related place by place.
use Rattle.std.proofs.Common.{◌≡◌, List, [], ◌∷◌, ◌++◌, Bool, true, false, cond, refl, sym, arith}
use Rattle.std.specs.Prelude.{⊤, Option, Some, None, Contains, find}
use Rattle.std.specs.List.{All, AllZip, filter, flat_map}
use Rattle.std.proofs.lemmas.List.Elements.{All-cons, All-nil, Contains-append_right}

-- tests of which each follows from the other tell the same
pub same-test : (p q : Bool) → (p ≡ true → q ≡ true) → (q ≡ true → p ≡ true) → p ≡ q
same-test true q there back = sym (there refl)
same-test false true there back = back refl
same-test false false there back = refl

module _ {X Y : Type 0} where
  -- what follows for items that stand there: by induction on the lists
  pub zip-weaker : (R S : X → Y → Type 0) (xs : List X) (ys : List Y) → ((x : X) (y : Y) → Contains xs x → Contains ys y → R x y → S x y) → AllZip R xs ys → AllZip S xs ys
  zip-weaker R S [] [] so zip = tt
  zip-weaker R S [] (y ∷ ys) so zip = absurd zip
  zip-weaker R S (x ∷ xs) [] so zip = absurd zip
  zip-weaker R S (x ∷ xs) (y ∷ ys) so zip =
      (so x y (0, omega arith, refl) (0, omega arith, refl) zip.0, zip-weaker R S xs ys (λ u v has has_too r. so u v (Contains-append_right (x ∷ []) xs u has) (Contains-append_right (y ∷ []) ys v has_too) r) zip.1)

  -- the same for the first list alone
  pub zip-first : (R : X → Y → Type 0) (P : X → Type 0) (xs : List X) (ys : List Y) → ((x : X) (y : Y) → Contains ys y → R x y → P x) → AllZip R xs ys → All P xs
  zip-first R P [] [] so zip = All-nil P
  zip-first R P [] (y ∷ ys) so zip = absurd zip
  zip-first R P (x ∷ xs) [] so zip = absurd zip
  zip-first R P (x ∷ xs) (y ∷ ys) so zip = All-cons P x xs (so x y (0, omega arith, refl) zip.0) (zip-first R P xs ys (λ u v has r. so u v (Contains-append_right (y ∷ []) ys v has) r) zip.1)

  -- the other way round
  pub zip-back : (R : X → Y → Type 0) (xs : List X) (ys : List Y) → AllZip R xs ys → AllZip (λ y x. R x y) ys xs
  zip-back R [] [] zip = tt
  zip-back R [] (y ∷ ys) zip = absurd zip
  zip-back R (x ∷ xs) [] zip = absurd zip
  zip-back R (x ∷ xs) (y ∷ ys) zip = (zip.0, zip-back R xs ys zip.1)

  -- with an item more
  pub zip-push : (R : X → Y → Type 0) (xs : List X) (ys : List Y) (x : X) (y : Y) → R x y → AllZip R xs ys → AllZip R (xs ++ x ∷ []) (ys ++ y ∷ [])
  zip-push R [] [] x y r zip = (r, tt)
  zip-push R [] (z ∷ ys) x y r zip = absurd zip
  zip-push R (z ∷ xs) [] x y r zip = absurd zip
  zip-push R (u ∷ xs) (v ∷ ys) x y r zip = (zip.0, zip-push R xs ys x y r zip.1)

  -- where both pass a test, or neither does
  pub zip-filter : (R : X → Y → Type 0) (p : X → Bool) (q : Y → Bool) (xs : List X) (ys : List Y) → AllZip (λ x y. R x y × (p x ≡ q y)) xs ys → AllZip R (filter p xs) (filter q ys)
  zip-filter R p q [] [] zip = tt
  zip-filter R p q [] (y ∷ ys) zip = absurd zip
  zip-filter R p q (x ∷ xs) [] zip = absurd zip
  zip-filter R p q (x ∷ xs) (y ∷ ys) zip = by-test (p x) (q y) zip.0.1 (zip-filter R p q xs ys zip.1)
    where
      by-test : (s t : Bool) → s ≡ t → AllZip R (filter p xs) (filter q ys) → AllZip R (cond s (x ∷ filter p xs) (filter p xs)) (cond t (y ∷ filter q ys) (filter q ys))
      by-test true true e rest = (zip.0.0, rest)
      by-test false false e rest = rest
      by-test true false e rest = cc
      by-test false true e rest = cc

  -- something is found in both, or nothing in either
  abbrev pub FoundAlike : (X → Y → Type 0) → Option X → Option Y → Type 0
  FoundAlike R None None = ⊤
  FoundAlike R (Some x) (Some y) = R x y
  FoundAlike R o p = ⊥

  pub zip-find : (R : X → Y → Type 0) (p : X → Bool) (q : Y → Bool) (xs : List X) (ys : List Y) → AllZip (λ x y. R x y × (p x ≡ q y)) xs ys → FoundAlike R (find p xs) (find q ys)
  zip-find R p q [] [] zip = tt
  zip-find R p q [] (y ∷ ys) zip = absurd zip
  zip-find R p q (x ∷ xs) [] zip = absurd zip
  zip-find R p q (x ∷ xs) (y ∷ ys) zip = by-test (p x) (q y) zip.0.1 (zip-find R p q xs ys zip.1)
    where
      by-test : (s t : Bool) → s ≡ t → FoundAlike R (find p xs) (find q ys) → FoundAlike R (cond s (Some x) (find p xs)) (cond t (Some y) (find q ys))
      by-test true true e rest = zip.0.0
      by-test false false e rest = rest
      by-test true false e rest = cc
      by-test false true e rest = cc

  -- lists that are joined
  pub zip-joined : {Z : Type 0} (f : X → List Z) (g : Y → List Z) (xs : List X) (ys : List Y) → AllZip (λ x y. f x ≡ g y) xs ys → flat_map f xs ≡ flat_map g ys
  zip-joined f g [] [] zip = refl
  zip-joined f g [] (y ∷ ys) zip = absurd zip
  zip-joined f g (x ∷ xs) [] zip = absurd zip
  zip-joined f g (x ∷ xs) (y ∷ ys) zip = λ i. zip.0 i ++ zip-joined f g xs ys zip.1 i
