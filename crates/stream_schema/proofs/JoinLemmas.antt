-- The joined schema, one right attribute after the other.
use Rattle.std.proofs.Common.{◌≡◌, ◌∙◌, ◌+◌, ℕ, zero, suc, List, [], ◌∷◌, take, length, ap, length-append}
use Rattle.std.specs.Prelude.{Some, slice_get}
use Rattle.std.proofs.lemmas.List.Sums.{fold_more}
use Rattle.std.proofs.lemmas.Option.{get_or_from_slice_get, slice_get_within}
use Rattle.event_types.specs.declared.kind.Kind.{Kind}
use Rattle.stream_schema.specs.Joining.{joined_schema, with_free}
use Rattle.stream_schema.specs.Schema.{Attr, kinds_of, names_of}

-- a name and a kind at one place are an attribute there, by induction on the list
pub attr-at : (attrs : List Attr) (i : ℕ) (name : List ℕ) (kind : Kind) → slice_get (names_of attrs) i ≡ Some name → slice_get (kinds_of attrs) i ≡ Some kind → slice_get attrs i ≡ Some (record { name = name; kind = kind })
attr-at [] i name kind named of_kind = cc
attr-at (a ∷ attrs) zero name kind named of_kind =
    let same_name : a.name ≡ name = cc in
    let same_kind : a.kind ≡ kind = cc in
    λ i. Some (record { name = same_name i; kind = same_kind i })
attr-at (a ∷ attrs) (suc i) name kind named of_kind = attr-at attrs i name kind named of_kind

-- one more right attribute
pub joined-more : (left right : List Attr) (i : ℕ) (a : Attr) → slice_get right i ≡ Some a → joined_schema left (take (i + 1) right) ≡ with_free (joined_schema left (take i right)) a
joined-more left right i a at =
    fold_more with_free left right i a (slice_get_within right i a at) ∙ ap (with_free (joined_schema left (take i right))) (get_or_from_slice_get right i a a at)

-- one attribute more is one longer
pub length-with_free : (attrs : List Attr) (a : Attr) → length (with_free attrs a) ≡ length attrs + 1
length-with_free attrs a = length-append attrs _
