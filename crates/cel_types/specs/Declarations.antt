-- The schema of a declaration, and its first fault.
use Rattle.std.specs.Prelude.{◌≡◌, ◌≢◌, ◌<◌, List, ◌∷◌, ◌++◌, length, map, AllPairs, Contains}
use Rattle.stream_schema.specs.Schema.{Attr, IsSchema, names_of}
use Rattle.cel_grammar.specs.Trees.{Column, Col}
use Rattle.cel_types.specs.declared.fault.TypeFault.{TypeFault}
use Rattle.cel_types.specs.declared.fault.TypeFault.TheVariants.{DuplicateAttr, TooWide}

-- an attribute of a declaration as one of a schema
abbrev pub attr_of : Column → Attr
attr_of (Col name kind) = record { name = name; kind = kind }

-- the attributes of a declaration, in order
abbrev pub attrs_of : List Column → List Attr
attrs_of columns = map attr_of columns

-- no two attributes have one name
abbrev pub AreDistinct : List Attr → Type 0
AreDistinct attrs = AllPairs (λ x y. x ≢ y) (names_of attrs)

-- the declaration has this schema: its attributes, with distinct names, at most 256
pub record IsDeclared (columns : List Column) (attrs : List Attr) : Type 0 where
  pub value : attrs ≡ attrs_of columns
  pub is_schema : IsSchema attrs

-- the first fault of a declaration: the first attribute whose name was there, and after all of them that they are too many
pub data FailsToDeclare (columns : List Column) : TypeFault → Type 0 where
  twice : (before after : List Attr) (attr : Attr) → attrs_of columns ≡ before ++ attr ∷ after → AreDistinct before → Contains (names_of before) attr.name → FailsToDeclare columns (DuplicateAttr attr.name)
  wide : AreDistinct (attrs_of columns) → 256 < length columns → FailsToDeclare columns (TooWide (length columns))
