-- Where an item of a name stands in a list, and when none has the name.
use Rattle.std.proofs.Common.{◌≡◌, ◌∙◌, ◌<◌, ℕ, zero, suc, false, length, List, [], ◌∷◌, refl, subst, sym, ap, map, inl, inr}
use Rattle.std.specs.Prelude.{Option, Some, None, IfSome, Contains, slice_get, is_some, option_map, position}
use Rattle.std.specs.List.{AllByRecursion, IsDistinct, list_any}
use Rattle.std.specs.Str.{bytes_eq}
use Rattle.std.specs.Cmp.Lexicographic.{nat_list_eq_equiv}
use Rattle.std.proofs.lemmas.Bool.{cases_Bool}
use Rattle.std.proofs.lemmas.Map.Views.{list_any-from_Contains, Contains-from_any}
use Rattle.std.proofs.lemmas.Option.{slice_get-map, slice_get_within}
use Rattle.std.proofs.lemmas.Slice.Eq.{bytes_eq-Decides}
use Rattle.stream_schema.proofs.PlaceLemmas.{is_some-position, missing, position-found, position-here, position-past}

-- what holds of all items holds of the one at a place
pub all-at : {Y : Type 0} (P : Y → Type 0) (ys : List Y) (place : ℕ) (y : Y) → AllByRecursion P ys → slice_get ys place ≡ Some y → P y
all-at P [] place y all at = cc
all-at P (x ∷ ys) zero y all at = let same : x ≡ y = cc in subst P same all.0
all-at P (x ∷ ys) (suc place) y all at = all-at P ys place y all.1 at

-- a name that isn't another one's
pub other-name : (x y : List ℕ) → bytes_eq x y ≡ false → bytes_eq y x ≡ false
other-name x y apart = sym (nat_list_eq_equiv.symm x y) ∙ apart

module _ {X : Type 0} (name_of : X → List ℕ) (name : List ℕ) where
  -- the item at the place has the name
  pub named-at : (xs : List X) (r : Option ℕ) → r ≡ position (λ x. bytes_eq name (name_of x)) xs → IfSome r (λ i. slice_get (map name_of xs) i ≡ Some name)
  named-at xs None e = tt
  named-at xs (Some i) e =
      let (x, at, same) = position-found (λ x. bytes_eq name (name_of x)) xs i (sym e) in
      slice_get-map name_of xs i ∙ ap (option_map name_of) at ∙ ap Some (sym ((bytes_eq-Decides name (name_of x)).0 same))

  -- the place is in the list
  pub within-at : (xs : List X) (r : Option ℕ) → r ≡ position (λ x. bytes_eq name (name_of x)) xs → IfSome r (λ i. i < length xs)
  within-at xs None e = tt
  within-at xs (Some i) e =
      let there = position-found (λ x. bytes_eq name (name_of x)) xs i (sym e) in slice_get_within xs i there.0 there.1

  -- some item has the name just where the names contain it
  any-named : (xs : List X) → list_any (λ x. bytes_eq name (name_of x)) xs ≡ list_any (bytes_eq name) (map name_of xs)
  any-named [] = refl
  any-named (x ∷ xs) = rw (any-named xs) refl

  -- there is a place just where the names contain it
  pub place-any : (xs : List X) → is_some (position (λ x. bytes_eq name (name_of x)) xs) ≡ list_any (bytes_eq name) (map name_of xs)
  place-any xs = is_some-position (λ x. bytes_eq name (name_of x)) xs ∙ any-named xs

  -- where there is no place, the names don't contain it
  pub absent-from_none : (xs : List X) → position (λ x. bytes_eq name (name_of x)) xs ≡ None → Contains (map name_of xs) name → ⊥
  absent-from_none xs none there =
      let has = place-any xs ∙ list_any-from_Contains nat_list_eq_equiv name (map name_of xs) there in
      let has_not = ap is_some none in
      cc

  -- and the other way round
  pub none-from_absent : (xs : List X) → (Contains (map name_of xs) name → ⊥) → position (λ x. bytes_eq name (name_of x)) xs ≡ None
  none-from_absent xs absent =
      elim (cases_Bool (list_any (bytes_eq name) (map name_of xs))) [
        | inl has ↦ absurd (absent (Contains-from_any (λ x y. (bytes_eq-Decides x y).0) name (map name_of xs) has))
        | inr has_not ↦ missing (position (λ x. bytes_eq name (name_of x)) xs) (place-any xs ∙ has_not)
      ]

  -- the place of the item that has the name, where no two items have one
  pub placed : (xs : List X) (place : ℕ) → IsDistinct bytes_eq (map name_of xs) → slice_get (map name_of xs) place ≡ Some name → Some place ≡ position (λ x. bytes_eq name (name_of x)) xs
  unfolding IsDistinct
  placed [] place distinct at = cc
  placed (x ∷ xs) zero distinct at =
      let same : name ≡ name_of x = cc in sym (position-here (λ x. bytes_eq name (name_of x)) x xs ((bytes_eq-Decides name (name_of x)).1 same))
  placed (x ∷ xs) (suc place) distinct at =
      let apart = other-name (name_of x) name (all-at (λ y. bytes_eq (name_of x) y ≡ false) (map name_of xs) place name distinct.0 at) in
      ap (option_map suc) (placed xs place distinct.1 at) ∙ sym (position-past (λ x. bytes_eq name (name_of x)) x xs apart)
