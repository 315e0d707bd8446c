-- The attributes that the items of a SELECT make, and their first fault.
use Rattle.std.specs.Prelude.{◌≡◌, true, false, ℕ, List, [], ◌∷◌, ◌++◌, length, map}
use Rattle.std.specs.List.{filter, range_with_len}
use Rattle.event_types.specs.declared.kind.Kind.{Kind}
use Rattle.semantics.specs.Scalars.{Sc, Event}
use Rattle.stream_schema.specs.Joining.{is_taken}
use Rattle.stream_schema.specs.Schema.{Attr, names_of}
use Rattle.cel_grammar.specs.Trees.{Scalar, Item, All, Named}
use Rattle.cel_types.specs.declared.fault.TypeFault.{TypeFault}
use Rattle.cel_types.specs.declared.fault.TypeFault.TheVariants.{DuplicateAttr}
use Rattle.cel_types.specs.Scopes.{Alone}
use Rattle.cel_types.specs.Scalars.{IsOf, HasFault}

-- an attribute
abbrev pub attr : List ℕ → Kind → Attr
attr name kind = record { name = name; kind = kind }

-- the terms of all attributes of a tuple, in order
abbrev pub all_events : List Attr → List Sc
all_events attrs = map Event (range_with_len 0 (length attrs))

-- those of the second attributes' names that are among the first ones', in order
abbrev pub names_there : List Attr → List Attr → List (List ℕ)
names_there made attrs = filter (is_taken made) (names_of attrs)

-- over tuples of a schema, behind attributes that are made already, the items make these attributes of these terms: names are new, and * stands for all attributes
pub data Make (schema : List Attr) : List Attr → List Item → List Attr → List Sc → Type 0 where
  none : {made : List Attr} → Make schema made [] [] []
  all : {made more : List Attr} {items : List Item} {terms : List Sc} → names_there made schema ≡ [] → Make schema (made ++ schema) items more terms → Make schema made (All ∷ items) (schema ++ more) (all_events schema ++ terms)
  named : {made more : List Attr} {items : List Item} {terms : List Sc} {x : Scalar} {a : List ℕ} {s : Sc} {k : Kind} → IsOf (Alone schema) x s k → is_taken made a ≡ false → Make schema (made ++ attr a k ∷ []) items more terms → Make schema made (Named x a ∷ items) (attr a k ∷ more) (s ∷ terms)

-- the first fault of the items: of each its scalar's, then the first name that was there
pub data FailToMake (schema : List Attr) : List Attr → List Item → TypeFault → Type 0 where
  all_there : {made : List Attr} {items : List Item} {a : List ℕ} {names : List (List ℕ)} → names_there made schema ≡ a ∷ names → FailToMake schema made (All ∷ items) (DuplicateAttr a)
  all_then : {made : List Attr} {items : List Item} {f : TypeFault} → names_there made schema ≡ [] → FailToMake schema (made ++ schema) items f → FailToMake schema made (All ∷ items) f
  scalar : {made : List Attr} {items : List Item} {x : Scalar} {a : List ℕ} {f : TypeFault} → HasFault (Alone schema) x f → FailToMake schema made (Named x a ∷ items) f
  there : {made : List Attr} {items : List Item} {x : Scalar} {a : List ℕ} {s : Sc} {k : Kind} → IsOf (Alone schema) x s k → is_taken made a ≡ true → FailToMake schema made (Named x a ∷ items) (DuplicateAttr a)
  named_then : {made : List Attr} {items : List Item} {x : Scalar} {a : List ℕ} {s : Sc} {k : Kind} {f : TypeFault} → IsOf (Alone schema) x s k → is_taken made a ≡ false → FailToMake schema (made ++ attr a k ∷ []) items f → FailToMake schema made (Named x a ∷ items) f
