-- Attributes of a declaration, one after the other.
use Rattle.std.proofs.Common.{◌≡◌, ◌≢◌, ◌∙◌, sym, ap, refl, ℕ, ◌+◌, ◌<◌, List, [], ◌∷◌, ◌++◌, true, false, ◌||◌, map, length, get_or, take, drop, arith}
use Rattle.std.specs.Prelude.{Contains, None}
use Rattle.std.specs.List.{list_any}
use Rattle.std.specs.Str.{bytes_eq}
use Rattle.std.specs.Cmp.Lexicographic.{nat_list_eq_equiv}
use Rattle.std.proofs.lemmas.List.{map-append, take-append-drop, drop_more, take_more, get_or_append_left, get_or_at, length-append}
use Rattle.std.proofs.lemmas.List.Elements.{Contains-get_or}
use Rattle.std.proofs.lemmas.List.Quantifiers.{all_pairs_push}
use Rattle.std.proofs.lemmas.Map.Views.{Contains-from_any, list_any-from_Contains}
use Rattle.std.proofs.lemmas.Slice.Eq.{bytes_eq-Decides}
use Rattle.stream_schema.specs.Schema.{names_of, place_of}
use Rattle.stream_schema.specs.Schema as schema
use Rattle.stream_schema.proofs.NameLemmas.{none-from_absent}
use Rattle.cel_grammar.specs.declared.statement.Attr.{Attr}
use Rattle.cel_grammar.specs.Views.{column_of}
use Rattle.cel_types.specs.declared.fault.TypeFault.TheVariants.{DuplicateAttr}
use Rattle.cel_types.specs.Declarations.{AreDistinct, FailsToDeclare, twice, attr_of, attrs_of}

-- an attribute whose name was there isn't one of distinct attributes
pub name_clash : (before after : List schema.Attr) (a : schema.Attr) → AreDistinct (before ++ a ∷ after) → Contains (names_of before) a.name → ⊥
name_clash before after a distinct (k, within, same) =
    let names = names_of before in
    let joined : names_of (before ++ a ∷ after) ≡ names ++ a.name ∷ names_of after = map-append (λ (b : schema.Attr). b.name) before (a ∷ after) in
    let inside : length names < length (names_of (before ++ a ∷ after)) = rw joined (rw (length-append names (a.name ∷ names_of after)) (omega arith)) in
    let left : get_or (names_of (before ++ a ∷ after)) k a.name ≡ a.name = rw joined (get_or_append_left names (a.name ∷ names_of after) a.name k within ∙ same) in
    let right : get_or (names_of (before ++ a ∷ after)) (length names) a.name ≡ a.name = rw joined (get_or_at names a.name (names_of after) a.name (length names) refl) in
    distinct k (length names) a.name within inside (left ∙ sym right)

-- attributes of a declaration as those of a schema
abbrev seen : List Attr → List schema.Attr
seen attrs = attrs_of (map column_of attrs)

seen-append : (attrs more : List Attr) → seen (attrs ++ more) ≡ seen attrs ++ seen more
seen-append attrs more = ap attrs_of (map-append column_of attrs more) ∙ map-append attr_of (map column_of attrs) (map column_of more)

-- the name is that of an attribute just where it is among the names
among-seen : (name : List ℕ) (attrs : List Attr) → list_any (λ b. bytes_eq name b.name) attrs ≡ list_any (bytes_eq name) (names_of (seen attrs))
among-seen name [] = refl
among-seen name (a ∷ attrs) = ap (λ b. bytes_eq name a.name || b) (among-seen name attrs)

module _ (attrs : List Attr) (i : ℕ) (a : Attr) (within : i < length attrs) (at : a ≡ get_or attrs i a) where
  -- the attributes before a place, the one there, and those behind it
  seen-split : seen attrs ≡ seen (take i attrs) ++ attr_of (column_of a) ∷ seen (drop (i + 1) attrs)
  seen-split =
      let behind : drop i attrs ≡ a ∷ drop (i + 1) attrs = drop_more attrs i a within ∙ ap (λ (b : Attr). b ∷ drop (i + 1) attrs) (sym at) in
      ap seen (sym (take-append-drop i attrs)) ∙ seen-append (take i attrs) (drop i attrs) ∙ ap (λ (bs : List Attr). seen (take i attrs) ++ seen bs) behind

  -- one attribute more
  pub seen-more : seen (take (i + 1) attrs) ≡ seen (take i attrs) ++ attr_of (column_of a) ∷ []
  seen-more = ap seen (take_more attrs i a within ∙ ap (λ (b : Attr). take i attrs ++ b ∷ []) (sym at)) ∙ seen-append (take i attrs) (a ∷ [])

  -- a new name keeps the names distinct
  pub distinct-more : AreDistinct (seen (take i attrs)) → list_any (λ b. bytes_eq a.name b.name) (take i attrs) ≡ false → AreDistinct (seen (take (i + 1) attrs))
  distinct-more was absent =
      let names = names_of (seen (take i attrs)) in
      let others : (k : ℕ) (d : List ℕ) → k < length names → get_or names k d ≢ a.name =
      (λ k d lt same.
      let there : Contains names a.name = rw same at (Contains-get_or names k d lt) in
      let has = list_any-from_Contains nat_list_eq_equiv a.name names there in
      let has_not = sym (among-seen a.name (take i attrs)) ∙ absent in
      cc) in
      let joined : names_of (seen (take (i + 1) attrs)) ≡ names ++ a.name ∷ [] = ap names_of seen-more ∙ map-append (λ (b : schema.Attr). b.name) (seen (take i attrs)) (attr_of (column_of a) ∷ []) in
      rw joined (all_pairs_push (λ x y. x ≢ y) names a.name was others)

  -- a name that was there is a fault
  pub fails_twice : (name : List ℕ) → name ≡ a.name → AreDistinct (seen (take i attrs)) → list_any (λ b. bytes_eq a.name b.name) (take i attrs) ≡ true → FailsToDeclare (map column_of attrs) (DuplicateAttr name)
  fails_twice name copied was present =
      let there = Contains-from_any (λ x y. (bytes_eq-Decides x y).0) a.name (names_of (seen (take i attrs))) (sym (among-seen a.name (take i attrs)) ∙ present) in
      rw copied (twice (seen (take i attrs)) (seen (drop (i + 1) attrs)) (attr_of (column_of a)) seen-split was there)

  -- of distinct names none was there before
  pub absent_before : AreDistinct (seen attrs) → place_of a.name (seen (take i attrs)) ≡ None
  absent_before distinct =
      none-from_absent (λ (b : schema.Attr). b.name) a.name (seen (take i attrs))
      (λ there. name_clash (seen (take i attrs)) (seen (drop (i + 1) attrs)) (attr_of (column_of a)) (rw (← seen-split) distinct) there)
