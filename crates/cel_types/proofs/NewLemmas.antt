-- Attributes of new names.
use Rattle.std.proofs.Common.{◌≡◌, ◌≢◌, ◌∙◌, ◌<◌, ℕ, zero, suc, List, [], ◌∷◌, ◌++◌, false, length, take, refl, sym, inl, inr, append_assoc, length-append, arith}
use Rattle.std.specs.Prelude.{None, Some, slice_get, AllPairs, Contains}
use Rattle.std.specs.List.{list_any}
use Rattle.std.specs.Str.{bytes_eq}
use Rattle.std.proofs.lemmas.Bool.{cases_Bool}
use Rattle.std.proofs.lemmas.List.{append-nil, map-append}
use Rattle.std.proofs.lemmas.List.Folds.{list_any-append}
use Rattle.std.proofs.lemmas.Map.Views.{Contains-from_any}
use Rattle.std.proofs.lemmas.Slice.Eq.{bytes_eq-Decides}
use Rattle.std.proofs.Math.ListN.{get_or-append}
use Rattle.std.proofs.Math.Seq.{get_or-append_seam}
use Rattle.stream_schema.specs.Joining.{is_taken}
use Rattle.stream_schema.specs.Schema.{Attr, IsSchema, names_of, place_of}
use Rattle.stream_schema.proofs.NameLemmas.{place-any}
use Rattle.stream_schema.proofs.PlaceLemmas.{is_some-position, missing}
use Rattle.cel_types.specs.Items.{names_there}
use Rattle.cel_types.specs.Making.{AreNew}

-- a name is taken just where an attribute has it
pub is_taken-any : (attrs : List Attr) (name : List ℕ) → is_taken attrs name ≡ list_any (λ a. bytes_eq name a.name) attrs
is_taken-any attrs name = is_some-position (λ a. bytes_eq name a.name) attrs

-- a name that two lists haven't is not in both together
is_taken-append : (xs ys : List Attr) (name : List ℕ) → is_taken xs name ≡ false → is_taken ys name ≡ false → is_taken (xs ++ ys) name ≡ false
is_taken-append xs ys name first second =
    let here = sym (is_taken-any xs name) ∙ first in
    let there = sym (is_taken-any ys name) ∙ second in
    is_taken-any (xs ++ ys) name ∙ list_any-append (λ a. bytes_eq name a.name) xs ys ∙ rw (here, there) refl

-- new attributes behind new ones
pub new-append : (there xs ys : List Attr) → AreNew there xs → AreNew (there ++ xs) ys → AreNew there (xs ++ ys)
new-append there [] ys first second = rw append-nil at second
new-append there (x ∷ xs) ys first second =
    (first.0, new-append (there ++ x ∷ []) xs ys first.1 (rw (sym (append_assoc there (x ∷ []) xs)) at second))

-- attributes that are new behind some, of which none has a name of the others, by induction on them
new-behind : (made before attrs : List Attr) → AreNew before attrs → names_there made attrs ≡ [] → AreNew (made ++ before) attrs
new-behind made before [] new none = tt
new-behind made before (x ∷ attrs) new none =
    elim (cases_Bool (is_taken made x.name)) [
      | inl taken ↦ let found = rw taken at none in cc
      | inr free ↦ (
        is_taken-append made before x.name free new.0,
        rw (append_assoc made before (x ∷ [])) (new-behind made (before ++ x ∷ []) attrs new.1 (rw free at none)),
      )
    ]

-- those of a schema are new behind any of which none has a name of them
pub new-schema : (made attrs : List Attr) → AreNew [] attrs → names_there made attrs ≡ [] → AreNew made attrs
new-schema made attrs new none = rw append-nil at (new-behind made [] attrs new none)

-- a name that is among the first ones can't be distinct from them
twice : (before attrs : List Attr) (a : Attr) → AllPairs (λ x y. x ≢ y) (names_of (before ++ a ∷ attrs)) → Contains (names_of before) a.name → ⊥
twice before attrs a distinct (k, within, same) =
    let names : names_of (before ++ a ∷ attrs) ≡ names_of before ++ a.name ∷ names_of attrs = map-append (λ (b : Attr). b.name) before (a ∷ attrs) in
    let all : AllPairs (λ x y. x ≢ y) (names_of before ++ a.name ∷ names_of attrs) = rw (← names) distinct in
    let size = length-append (names_of before) (a.name ∷ names_of attrs) in
    let last : length (names_of before) < length (names_of before ++ a.name ∷ names_of attrs) = omega (arith, size) in
    all k (length (names_of before)) a.name within last
    (get_or-append (names_of before) (a.name ∷ names_of attrs) a.name k within ∙ same ∙ sym (get_or-append_seam (names_of before) a.name (names_of attrs) a.name))

-- distinct names are new, one behind the other, by induction on those that are left
new-distinct : (before attrs : List Attr) → AllPairs (λ x y. x ≢ y) (names_of (before ++ attrs)) → AreNew before attrs
new-distinct before [] distinct = tt
new-distinct before (a ∷ attrs) distinct = (
  elim (cases_Bool (is_taken before a.name)) [
    | inl taken ↦
        let any = sym (place-any (λ (b : Attr). b.name) a.name before) ∙ taken in
        absurd (twice before attrs a distinct (Contains-from_any (λ x y. (bytes_eq-Decides x y).0) a.name (names_of before) any))
    | inr free ↦ free
  ],
  new-distinct (before ++ a ∷ []) attrs (rw (append_assoc before (a ∷ []) attrs) distinct),
)

-- the attributes of a schema are new, one behind the other
pub new-from_schema : (attrs : List Attr) → IsSchema attrs → AreNew [] attrs
new-from_schema attrs schema = new-distinct [] attrs schema.distinct

-- a new attribute has no place among those before it, by induction on its place
pub new-at : (there attrs : List Attr) (i : ℕ) (a : Attr) → AreNew there attrs → slice_get attrs i ≡ Some a → place_of a.name (there ++ take i attrs) ≡ None
new-at there [] i a new at = cc
new-at there (x ∷ attrs) zero a new at =
    let e : x ≡ a = cc in rw append-nil (missing (place_of a.name there) (rw e at new.0))
new-at there (x ∷ attrs) (suc i) a new at =
    rw (sym (append_assoc there (x ∷ []) (take i attrs))) (new-at (there ++ x ∷ []) attrs i a new.1 at)
