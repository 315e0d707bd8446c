-- The texts of schemas and of lists.
use Rattle.std.specs.Prelude.{ℕ, List, [], ◌∷◌, ◌++◌, codes, map}
use Rattle.std.specs.List.{flat_map}
use Rattle.event_types.specs.KindWord.{kind_word}
use Rattle.stream_schema.specs.Schema.{Attr}

-- an attribute: its name, a space and its kind
abbrev pub attribute_text : Attr → List ℕ
attribute_text attr = attr.name ++ (codes " " ++ kind_word attr.kind)

-- texts with a comma and a space between each two
abbrev pub listed : List (List ℕ) → List ℕ
listed [] = []
listed (first ∷ others) = first ++ flat_map (λ other. codes ", " ++ other) others

-- a schema, as `(Name TEXT, Price INT)`
abbrev pub schema_text : List Attr → List ℕ
schema_text attrs = codes "(" ++ (listed (map attribute_text attrs) ++ codes ")")
