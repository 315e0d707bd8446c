-- Schemas: lists of attributes with distinct names.
use Rattle.std.specs.Prelude.{ℕ, ◌≤◌, ◌≢◌, List, Option, length, map, position, AllPairs}
use Rattle.std.specs.Str.{bytes_eq}
use Rattle.event_types.specs.declared.kind.Kind.{Kind}

-- an attribute: its name, as bytes of UTF-8, and its kind
pub record Attr : Type 0 where
  pub name : List ℕ
  pub kind : Kind

-- the names of the attributes, in order
abbrev pub names_of : List Attr → List (List ℕ)
names_of attrs = map (λ a. a.name) attrs

-- the kinds of the attributes, in order
abbrev pub kinds_of : List Attr → List Kind
kinds_of attrs = map (λ a. a.kind) attrs

-- the place from 0 of the attribute that has the name, if one has it
abbrev pub place_of : List ℕ → List Attr → Option ℕ
place_of name attrs = position (λ a. bytes_eq name a.name) attrs

-- a schema: no two of its attributes have one name, and there are at most 256
pub record IsSchema (attrs : List Attr) : Type 0 where
  pub distinct : AllPairs (λ x y. x ≢ y) (names_of attrs)
  pub narrow : length attrs ≤ 256
