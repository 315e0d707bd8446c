-- Lists that are put behind a text item by item.
use Rattle.std.proofs.Common.{◌≡◌, ◌∙◌, ℕ, zero, suc, List, [], ◌∷◌, ◌++◌, take, map, ap, sym, refl, append_assoc}
use Rattle.std.specs.Prelude.{Some, codes, slice_get}
use Rattle.std.specs.List.{flat_map}
use Rattle.std.proofs.lemmas.List.{append-nil}
use Rattle.event_types.specs.declared.kind.Kind.{Kind}
use Rattle.stream_schema.specs.Schema.{Attr, kinds_of, names_of}
use Rattle.plan_text.specs.Parts.{gap}
use Rattle.plan_text.specs.Texts.{attribute_text, listed}

-- what the next item gives stands behind what those before it give
pub flat_map-take : {A : Type 0} (f : A → List ℕ) (xs : List A) (i : ℕ) (x : A) → slice_get xs i ≡ Some x → flat_map f (take (suc i) xs) ≡ flat_map f (take i xs) ++ f x
flat_map-take f [] i x e = absurd cc
flat_map-take f (y ∷ ys) zero x e = let same : y ≡ x = cc in rw same (append-nil (f x))
flat_map-take f (y ∷ ys) (suc i) x e = ap (λ (s : List ℕ). f y ++ s) (flat_map-take f ys i x e) ∙ sym (append_assoc (f y) (flat_map f (take i ys)) (f x))

-- the next text stands behind its gap
pub listed-take : (xs : List (List ℕ)) (i : ℕ) (x : List ℕ) → slice_get xs i ≡ Some x → listed (take (suc i) xs) ≡ listed (take i xs) ++ (gap i ++ x)
listed-take [] i x e = absurd cc
listed-take (y ∷ ys) zero x e = let same : y ≡ x = cc in rw same (append-nil x)
listed-take (y ∷ ys) (suc i) x e =
    let behind : List ℕ → List ℕ = λ other. codes ", " ++ other in
    ap (λ (s : List ℕ). y ++ s) (flat_map-take behind ys i x e) ∙ sym (append_assoc y (flat_map behind (take i ys)) (codes ", " ++ x))

-- the text of the attribute that has this name and this kind
pub attribute-at : (attrs : List Attr) (i : ℕ) (name : List ℕ) (k : Kind) → slice_get (names_of attrs) i ≡ Some name → slice_get (kinds_of attrs) i ≡ Some k
    → slice_get (map attribute_text attrs) i ≡ Some (attribute_text (record { name = name; kind = k }))
attribute-at [] i name k named has = absurd cc
attribute-at (a ∷ attrs) zero name k named has =
    let same : a.name ≡ name = cc in
    let kind : a.kind ≡ k = cc in
    rw (same, kind) refl
attribute-at (a ∷ attrs) (suc i) name k named has = attribute-at attrs i name k named has
