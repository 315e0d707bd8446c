-- A schema with one more attribute.
use Rattle.std.proofs.Common.{◌≡◌, ℕ, ◌<◌, ◌≢◌, List, [], ◌∷◌, ◌++◌, get_or, arith, length-append}
use Rattle.std.specs.Prelude.{None, length}
use Rattle.std.proofs.lemmas.List.{map-append}
use Rattle.std.proofs.lemmas.List.Elements.{Contains-get_or}
use Rattle.std.proofs.lemmas.List.Quantifiers.{all_pairs_push}
use Rattle.stream_schema.specs.Schema.{Attr, IsSchema, names_of, place_of}
use Rattle.stream_schema.proofs.NameLemmas.{absent-from_none}

-- a schema of fewer than 256 attributes with one more, of a new name
pub IsSchema-append : (attrs : List Attr) (a : Attr) → IsSchema attrs → length attrs < 256 → place_of a.name attrs ≡ None → IsSchema (attrs ++ a ∷ [])
IsSchema-append attrs a was few none =
    let others : (k : ℕ) (d : List ℕ) → k < length (names_of attrs) → get_or (names_of attrs) k d ≢ a.name =
    (λ k d lt same. absent-from_none (λ (b : Attr). b.name) a.name attrs none (rw same at (Contains-get_or (names_of attrs) k d lt))) in
    record {
      distinct = rw (map-append (λ (b : Attr). b.name) attrs (a ∷ [])) (all_pairs_push (λ x y. x ≢ y) (names_of attrs) a.name was.distinct others);
      narrow = rw (length-append attrs (a ∷ [])) (omega arith);
    }
