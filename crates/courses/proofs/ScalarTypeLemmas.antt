-- The term and the kind of a scalar that are computed are those of the rules, and so is its first fault.
use Rattle.std.proofs.Common.{◌≡◌, ◌≢◌, ℕ, true, false, List, Ok, Err, Some, None, refl, ap, subst, eqb-true}
use Rattle.std.specs.Prelude.{Option}
use Rattle.std.proofs.lemmas.Bool.{cond_both, eq-eqb}
use Rattle.event_types.specs.declared.kind.Kind.{Kind}
use Rattle.event_types.specs.declared.kind.Kind.TheVariants as kind
use Rattle.semantics.specs.OpKinds.{op_kind}
use Rattle.cel_grammar.specs.declared.mark.Mark.{Mark}
use Rattle.cel_grammar.specs.Trees.{Op, Scalar}
use Rattle.cel_grammar.specs.Trees as tree
use Rattle.cel_types.specs.declared.fault.TypeFault.{TypeFault}
use Rattle.cel_types.specs.declared.fault.TypeFault.TheVariants.{KindMismatch}
use Rattle.cel_types.specs.Scalars.{HasFault, IsOf, kinds_fault, op_of, product_fault}
use Rattle.cel_types.specs.Scalars as scalar
use Rattle.cel_types.specs.Scopes.{Scope, Typed, attribute, written}
use Rattle.cel_types.specs.Unions.{is_kind}
use Rattle.catalogue.specs.Faults.{IsOfTypes}
use Rattle.catalogue.specs.Faults as told
use Rattle.courses.specs.ScalarTypes.{attribute_type, operand_type, operation_type, scalar_type}
use Rattle.courses.specs.ToldFaults.{type_told}
use Rattle.courses.proofs.FoundLemmas.{IsFound, found-then}

-- kinds that are found to be one are
pub kinds-same : (k l : Kind) → is_kind k l ≡ true → k ≡ l
kinds-same kind.Int kind.Int e = refl
kinds-same kind.Text kind.Text e = refl
kinds-same (kind.Dec m) (kind.Dec n) e = ap kind.Dec (eqb-true m n e)
kinds-same k l e = cc

-- each kind is found to be itself
kind-self : (k : Kind) → is_kind k k ≡ true
kind-self kind.Int = refl
kind-self kind.Text = refl
kind-self (kind.Dec n) = eq-eqb n n refl

-- kinds that are found to differ do
pub kinds-differ : (k l : Kind) → is_kind k l ≡ false → k ≢ l
kinds-differ k l e same = let yes : is_kind k l ≡ true = subst (λ m. is_kind k m ≡ true) same (kind-self k) in cc

-- the scalar has this term and this kind
abbrev pub HasType : Scope → Scalar → Typed → Type 0
HasType scope x one = IsOf scope x one.term one.kind

attribute-typed : (scope : Scope) (m : Mark) (a : List ℕ) (found : Option Typed) → attribute scope m a ≡ found → IsFound (HasType scope (tree.Attr m a)) (HasFault scope (tree.Attr m a)) (attribute_type (written m a) found)
attribute-typed scope m a (Some one) is = scalar.attr is
attribute-typed scope m a None is = (scalar.unknown is, told.unknown)

-- the fault of the kinds of operands can be told
product-told : (k l : Kind) → IsOfTypes (product_fault k l) (type_told (product_fault k l))
product-told (kind.Dec m) (kind.Dec n) = told.fine
product-told (kind.Dec m) kind.Int = told.kinds
product-told (kind.Dec m) kind.Text = told.kinds
product-told kind.Int l = told.kinds
product-told kind.Text l = told.kinds

kinds-told : (o : Op) (k l : Kind) → IsOfTypes (kinds_fault o k l) (type_told (kinds_fault o k l))
kinds-told tree.Mul k l = product-told k l
kinds-told o k l = told.kinds

module _ (scope : Scope) (o : Op) (x y : Scalar) where
  abbrev IsTwo : Typed → Type 0
  IsTwo = HasType scope (tree.Two o x y)

  abbrev FailsTwo : TypeFault → Type 0
  FailsTwo = HasFault scope (tree.Two o x y)

  -- a left operand is no text
  abbrev IsOperand : Typed → Type 0
  IsOperand one = HasType scope x one × (one.kind ≢ kind.Text)

  operand-typed : (s : Typed) → HasType scope x s → IsFound IsOperand FailsTwo (operand_type s)
  operand-typed s left = cond_both (is_kind s.kind kind.Text) (Err (KindMismatch kind.Int kind.Text)) (Ok s) (IsFound IsOperand FailsTwo)
      (λ e. (scalar.left_text (subst (λ l. IsOf scope x s.term l) (kinds-same s.kind kind.Text e) left), told.kinds))
      (λ e. (left, kinds-differ s.kind kind.Text e))

  operation-typed : (s t : Typed) → IsOperand s → HasType scope y t → (found : Option Kind) → op_kind (op_of o) s.kind t.kind ≡ found → IsFound IsTwo FailsTwo (operation_type o s t found)
  operation-typed s t left right (Some k) is = scalar.two left.0 right is
  operation-typed s t left right None is = (scalar.kinds left.0 left.1 right is, kinds-told o s.kind t.kind)

  two-typed : IsFound (HasType scope x) (HasFault scope x) (scalar_type scope x) → IsFound (HasType scope y) (HasFault scope y) (scalar_type scope y) → IsFound IsTwo FailsTwo (scalar_type scope (tree.Two o x y))
  two-typed left right =
      found-then (HasType scope x) (HasFault scope x) IsTwo FailsTwo (scalar_type scope x) _ left (λ why fails. scalar.left fails)
      (λ s is. found-then IsOperand FailsTwo IsTwo FailsTwo (operand_type s) _ (operand-typed s is) (λ why fails. fails)
      (λ l is_left. found-then (HasType scope y) (HasFault scope y) IsTwo FailsTwo (scalar_type scope y) _ right (λ why fails. scalar.right is_left.0 is_left.1 fails)
      (λ r is_right. operation-typed l r is_left is_right (op_kind (op_of o) l.kind r.kind) refl)))

-- by induction on the scalar
pub scalar-typed : (scope : Scope) (x : Scalar) → IsFound (HasType scope x) (HasFault scope x) (scalar_type scope x)
scalar-typed scope (tree.Number n) = scalar.number
scalar-typed scope (tree.Quoted t) = scalar.quoted
scalar-typed scope (tree.Attr m a) = attribute-typed scope m a (attribute scope m a) refl
scalar-typed scope tree.Dur = scalar.dur
scalar-typed scope (tree.Two o x y) = two-typed scope o x y (scalar-typed scope x) (scalar-typed scope y)
scalar-typed scope (tree.Decimal scale units) = scalar.decimal
