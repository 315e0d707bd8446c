-- The attributes and the terms that items make, or their first fault, by computing.
use Rattle.std.specs.Prelude.{ℕ, List, [], ◌∷◌, ◌++◌, Result, Ok, Err, if◌then◌else◌}
use Rattle.semantics.specs.Scalars.{Sc}
use Rattle.stream_schema.specs.Joining.{is_taken}
use Rattle.stream_schema.specs.Schema.{Attr}
use Rattle.cel_grammar.specs.Trees.{Item, All, Named}
use Rattle.cel_types.specs.declared.fault.TypeFault.{TypeFault}
use Rattle.cel_types.specs.declared.fault.TypeFault.TheVariants.{DuplicateAttr}
use Rattle.cel_types.specs.Items.{all_events, attr, names_there}
use Rattle.cel_types.specs.Scopes.{Alone, Typed}
use Rattle.courses.specs.FirstFault.{◌>>=◌}
use Rattle.courses.specs.ScalarTypes.{scalar_type}

-- attributes, and the terms of their values
pub record Selected : Type 0 where
  pub attributes : List Attr
  pub terms : List Sc

-- `*`: all attributes of a schema, and then later items; the first name that is there already is DuplicateAttr
abbrev pub all_type : List Attr → List (List ℕ) → Result Selected TypeFault → Result Selected TypeFault
all_type schema (name ∷ names) later = Err (DuplicateAttr name)
all_type schema [] later = later >>= λ more. Ok (record { attributes = schema ++ more.attributes; terms = all_events schema ++ more.terms })

-- a scalar under a name, and then later items
abbrev pub named_type : List ℕ → Typed → Result Selected TypeFault → Result Selected TypeFault
named_type name one later = later >>= λ more. Ok (record { attributes = attr name one.kind ∷ more.attributes; terms = one.term ∷ more.terms })

-- what items make of tuples of a schema, behind attributes that are made already: of each its scalar's fault comes first, then that its name was there
abbrev pub items_type : List Attr → List Attr → List Item → Result Selected TypeFault
items_type schema made [] = Ok (record { attributes = []; terms = [] })
items_type schema made (All ∷ items) = all_type schema (names_there made schema) (items_type schema (made ++ schema) items)
items_type schema made (Named x a ∷ items) =
    scalar_type (Alone schema) x >>= λ one. if is_taken made a then Err (DuplicateAttr a) else named_type a one (items_type schema (made ++ attr a one.kind ∷ []) items)
