-- Lists by their first item.
use Rattle.std.proofs.Common.{◌≡◌, ℕ, ◌≤◌, List, [], ◌∷◌, ◌++◌, length, drop, get_or, map, take, zero, suc, refl, sym, ap, append_assoc, ◌∙◌, arith}
use Rattle.std.specs.Prelude.{Some, codes, slice_get}
use Rattle.std.specs.List.{flat_map}
use Rattle.std.proofs.lemmas.List.{append-nil}
use Rattle.std.proofs.lemmas.List.Folds.{flat_map-map}
use Rattle.cel_grammar.specs.Views.{item_of, column_of}
use Rattle.cel_grammar.specs.declared.source.Item.{Item}
use Rattle.cel_grammar.specs.declared.statement.Attr.{Attr}
use Rattle.cel_print.specs.Parts.{item_text, items_text, column_text, columns_text}

-- a list that is not empty has its first item before the others
pub first_of : {A : Type 0} (xs : List A) (first : A) → 1 ≤ length xs → first ≡ get_or xs 0 first → xs ≡ first ∷ drop 1 xs
first_of [] first some is = absurd (omega arith)
first_of (x ∷ xs) first some is = rw is refl

-- a statement's line stands behind those before it
pub lines_more : {A : Type 0} (f : A → List ℕ) (xs : List A) (i : ℕ) (x : A) → slice_get xs i ≡ Some x → flat_map f (take (suc i) xs) ≡ flat_map f (take i xs) ++ f x
lines_more f [] i x e = absurd cc
lines_more f (y ∷ xs) zero x e = let same : y ≡ x = cc in rw same (append-nil (f x))
lines_more f (y ∷ xs) (suc i) x e = ap (λ (s : List ℕ). f y ++ s) (lines_more f xs i x e) ∙ sym (append_assoc (f y) (flat_map f (take i xs)) (f x))

-- items by the first one
pub items_by_first : (xs : List Item) (first : Item) → 1 ≤ length xs → first ≡ get_or xs 0 first
    → items_text (map item_of xs) ≡ codes " " ++ (item_text (item_of first) ++ flat_map (λ item. codes ", " ++ item_text (item_of item)) (drop 1 xs))
items_by_first xs first some is =
    ap (λ (ys : List Item). items_text (map item_of ys)) (first_of xs first some is)
    ∙ ap (λ (s : List ℕ). codes " " ++ (item_text (item_of first) ++ s)) (flat_map-map (λ item. codes ", " ++ item_text item) item_of (drop 1 xs))

-- declared attributes by the first one
pub columns_by_first : (xs : List Attr) (first : Attr) → 1 ≤ length xs → first ≡ get_or xs 0 first
    → columns_text (map column_of xs) ≡ column_text (column_of first) ++ flat_map (λ attr. codes ", " ++ column_text (column_of attr)) (drop 1 xs)
columns_by_first xs first some is =
    ap (λ (ys : List Attr). columns_text (map column_of ys)) (first_of xs first some is)
    ∙ ap (λ (s : List ℕ). column_text (column_of first) ++ s) (flat_map-map (λ column. codes ", " ++ column_text column) column_of (drop 1 xs))
