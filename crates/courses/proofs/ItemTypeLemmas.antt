-- What items are computed to make is what the rules make, and so is their first fault.
use Rattle.std.proofs.Common.{◌≡◌, ℕ, false, List, [], ◌∷◌, ◌++◌, Err, refl}
use Rattle.std.specs.Prelude.{Result}
use Rattle.std.proofs.lemmas.Bool.{cond_both}
use Rattle.stream_schema.specs.Joining.{is_taken}
use Rattle.stream_schema.specs.Schema.{Attr}
use Rattle.cel_grammar.specs.Trees.{Item, Scalar}
use Rattle.cel_grammar.specs.Trees as tree
use Rattle.cel_types.specs.declared.fault.TypeFault.{TypeFault}
use Rattle.cel_types.specs.declared.fault.TypeFault.TheVariants.{DuplicateAttr}
use Rattle.cel_types.specs.Items.{FailToMake, Make, attr, names_there}
use Rattle.cel_types.specs.Items as items
use Rattle.cel_types.specs.Scalars.{HasFault}
use Rattle.cel_types.specs.Scopes.{Alone, Typed}
use Rattle.catalogue.specs.Faults as told
use Rattle.courses.specs.ItemTypes.{Selected, all_type, items_type, named_type}
use Rattle.courses.specs.ScalarTypes.{scalar_type}
use Rattle.courses.proofs.FoundLemmas.{IsFound, found-then}
use Rattle.courses.proofs.ScalarTypeLemmas.{HasType, scalar-typed}

-- the items make these attributes of these terms
abbrev pub Makes : List Attr → List Attr → List Item → Selected → Type 0
Makes schema made list more = Make schema made list more.attributes more.terms

-- what is found of items is so
abbrev pub AreFound : List Attr → List Attr → List Item → Result Selected TypeFault → Type 0
AreFound schema made list = IsFound (Makes schema made list) (FailToMake schema made list)

module _ (schema made : List Attr) (list : List Item) where
  all-typed : (later : Result Selected TypeFault) (names : List (List ℕ)) → names_there made schema ≡ names → AreFound schema (made ++ schema) list later → AreFound schema made (tree.All ∷ list) (all_type schema names later)
  all-typed later (a ∷ names) is rest = (items.all_there is, told.twice)
  all-typed later [] is rest =
      found-then (Makes schema (made ++ schema) list) (FailToMake schema (made ++ schema) list) (Makes schema made (tree.All ∷ list)) (FailToMake schema made (tree.All ∷ list)) later _ rest
      (λ why fails. items.all_then is fails) (λ more makes. items.all is makes)

  module _ (x : Scalar) (a : List ℕ) where
    abbrev behind : Typed → List Attr
    behind one = made ++ attr a one.kind ∷ []

    free-typed : (one : Typed) (later : Result Selected TypeFault) → HasType (Alone schema) x one → is_taken made a ≡ false → AreFound schema (behind one) list later → AreFound schema made (tree.Named x a ∷ list) (named_type a one later)
    free-typed one later is free rest =
        found-then (Makes schema (behind one) list) (FailToMake schema (behind one) list) (Makes schema made (tree.Named x a ∷ list)) (FailToMake schema made (tree.Named x a ∷ list)) later _ rest
        (λ why fails. items.named_then is free fails) (λ more makes. items.named is free makes)

    named-typed : ((one : Typed) → AreFound schema (behind one) list (items_type schema (behind one) list)) → AreFound schema made (tree.Named x a ∷ list) (items_type schema made (tree.Named x a ∷ list))
    named-typed rest =
        found-then (HasType (Alone schema) x) (HasFault (Alone schema) x) (Makes schema made (tree.Named x a ∷ list)) (FailToMake schema made (tree.Named x a ∷ list)) (scalar_type (Alone schema) x) _ (scalar-typed (Alone schema) x)
        (λ why fails. items.scalar fails)
        (λ one is. cond_both (is_taken made a) (Err (DuplicateAttr a)) (named_type a one (items_type schema (behind one) list)) (AreFound schema made (tree.Named x a ∷ list))
        (λ there. (items.there is there, told.twice)) (λ free. free-typed one (items_type schema (behind one) list) is free (rest one)))

-- by induction on the items
pub items-typed : (schema made : List Attr) (list : List Item) → AreFound schema made list (items_type schema made list)
items-typed schema made [] = items.none
items-typed schema made (tree.All ∷ list) = all-typed schema made list (items_type schema (made ++ schema) list) (names_there made schema) refl (items-typed schema (made ++ schema) list)
items-typed schema made (tree.Named x a ∷ list) = named-typed schema made list x a (λ one. items-typed schema (made ++ attr a one.kind ∷ []) list)
