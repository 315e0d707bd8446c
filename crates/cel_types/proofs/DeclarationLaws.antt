-- A declaration has at most one schema, at most one fault, and not both.
use Rattle.std.proofs.Common.{◌≡◌, ◌∙◌, sym, ap, refl, ◌⊎◌, inl, inr, List, [], ◌∷◌, ◌++◌, length, arith}
use Rattle.std.proofs.lemmas.List.{length-map}
use Rattle.std.specs.Prelude.{Contains}
use Rattle.stream_schema.specs.Schema.{Attr, names_of}
use Rattle.cel_grammar.specs.Trees.{Column, Statement, Stream, Query}
use Rattle.cel_types.specs.declared.fault.TypeFault.{TypeFault}
use Rattle.cel_types.specs.declared.fault.TypeFault.TheVariants.{DuplicateAttr}
use Rattle.cel_types.specs.Declarations.{AreDistinct, IsDeclared, FailsToDeclare, twice, wide, attr_of, attrs_of}
use Rattle.cel_types.specs.Statements.{Declares, FailsAsDeclaration}
use Rattle.cel_types.proofs.DeclarationLemmas.{name_clash}

-- two items of one list are the same, or one stands before the other, by induction on the items before them
two_places : {X : Type 0} {x y : X} (xs ys us vs : List X) → xs ++ x ∷ us ≡ ys ++ y ∷ vs → (x ≡ y) ⊎ (((more : List X) × (ys ≡ xs ++ x ∷ more)) ⊎ ((more : List X) × (xs ≡ ys ++ y ∷ more)))
two_places [] [] us vs e = inl cc
two_places [] (z ∷ ys) us vs e = inr (inl (ys, cc))
two_places (z ∷ xs) [] us vs e = inr (inr (xs, cc))
two_places (z ∷ xs) (z' ∷ ys) us vs e =
    let head : z ≡ z' = cc in
    let tail : xs ++ _ ∷ us ≡ ys ++ _ ∷ vs = cc in
    elim (two_places xs ys us vs tail) [
      | inl same ↦ inl same
      | inr other ↦ elim other [
        | inl (more, later) ↦ inr (inl (more, λ i. sym head i ∷ later i))
        | inr (more, sooner) ↦ inr (inr (more, λ i. head i ∷ sooner i))
      ]
    ]

module _ (columns : List Column) where
  -- columns have one schema
  pub IsDeclared-one : {schema other : List Attr} → IsDeclared columns schema → IsDeclared columns other → schema ≡ other
  IsDeclared-one d e = d.value ∙ sym e.value

  -- attributes with distinct names have no name twice
  distinct_once : (before after : List Attr) (a : Attr) → attrs_of columns ≡ before ++ a ∷ after → AreDistinct (attrs_of columns) → Contains (names_of before) a.name → ⊥
  distinct_once before after a parted distinct there = name_clash before after a (rw parted at distinct) there

  -- columns that have a schema have no fault
  pub IsDeclared-no_fault : {schema : List Attr} {f : TypeFault} → IsDeclared columns schema → FailsToDeclare columns f → ⊥
  IsDeclared-no_fault d (twice before after a parted was there) = distinct_once before after a parted (rw d.value at d.is_schema.distinct) there
  IsDeclared-no_fault d (wide distinct past) = let same = ap length d.value in let few = d.is_schema.narrow in absurd (omega (arith, length-map columns attr_of))

  -- columns have one first fault
  pub FailsToDeclare-one : {f g : TypeFault} → FailsToDeclare columns f → FailsToDeclare columns g → f ≡ g
  FailsToDeclare-one (twice before after a parted was there) (twice before' after' b parted' was' there') =
      elim (two_places before before' after after' (sym parted ∙ parted')) [
        | inl same ↦ ap (λ (c : Attr). DuplicateAttr c.name) same
        | inr other ↦ elim other [
          | inl (more, later) ↦ absurd (name_clash before more a (rw later at was') there)
          | inr (more, sooner) ↦ absurd (name_clash before' more b (rw sooner at was) there')
        ]
      ]
  FailsToDeclare-one (twice before after a parted was there) (wide distinct past) = absurd (distinct_once before after a parted distinct there)
  FailsToDeclare-one (wide distinct past) (twice before after a parted was there) = absurd (distinct_once before after a parted distinct there)
  FailsToDeclare-one (wide distinct past) (wide distinct' past') = refl

-- the same of statements
pub Declares-one : (statement : Statement) (schema other : List Attr) → Declares statement schema → Declares statement other → schema ≡ other
Declares-one (Stream name columns) schema other d e = IsDeclared-one columns d e
Declares-one (Query items source name) schema other d e = absurd d

-- a declaration has one first fault
pub FailsAsDeclaration-one : (statement : Statement) (f g : TypeFault) → FailsAsDeclaration statement f → FailsAsDeclaration statement g → f ≡ g
FailsAsDeclaration-one (Stream name columns) f g h h' = FailsToDeclare-one columns h h'
FailsAsDeclaration-one (Query items source name) f g h h' = absurd h

-- a declaration that has a schema has no fault
pub Declares-no_fault : (statement : Statement) (schema : List Attr) (f : TypeFault) → Declares statement schema → FailsAsDeclaration statement f → ⊥
Declares-no_fault (Stream name columns) schema f d h = IsDeclared-no_fault columns d h
Declares-no_fault (Query items source name) schema f d h = d
