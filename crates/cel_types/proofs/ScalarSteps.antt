-- The rules of the scalars' types as the program comes to them.
use Rattle.std.proofs.Common.{◌≡◌, ◌≢◌, sym, subst, ℕ, List}
use Rattle.std.specs.Prelude.{Some, None}
use Rattle.event_types.specs.declared.kind.Kind.{Kind}
use Rattle.event_types.specs.declared.kind.Kind.TheVariants as kind
use Rattle.semantics.specs.OpKinds.{alike_kind, op_kind, product_kind}
use Rattle.semantics.specs.Scalars.{Sc}
use Rattle.semantics.specs.Scalars as term
use Rattle.cel_grammar.specs.declared.mark.Mark.{Mark}
use Rattle.cel_grammar.specs.Trees.{Op, Add, Sub, Mul, Min, Max, Scalar, Attr, Two}
use Rattle.cel_types.specs.declared.fault.TypeFault.{TypeFault}
use Rattle.cel_types.specs.declared.fault.TypeFault.TheVariants.{UnknownAttr, KindMismatch}
use Rattle.cel_types.specs.Scopes.{Scope, Typed, attribute, written}
use Rattle.cel_types.specs.Scalars.{IsOf, HasFault, kinds_fault, op_of, product_fault, attr, two, unknown, left, left_text, kinds}
use Rattle.cel_types.specs.Operands.{FailsAsOperand, own, a_text}

module _ {scope : Scope} {m : Mark} {a : List ℕ} where
  -- an attribute that is found is of the kind that is found
  pub is_found : {t : Typed} → Some t ≡ attribute scope m a → IsOf scope (Attr m a) t.term t.kind
  is_found e = attr (sym e)

  -- an attribute that isn't found is unknown under its name as it is written
  pub is_unknown : {text : List ℕ} → None ≡ attribute scope m a → text ≡ written m a → HasFault scope (Attr m a) (UnknownAttr text)
  is_unknown e t = subst (λ n. HasFault scope (Attr m a) (UnknownAttr n)) (sym t) (unknown (sym e))

module _ {scope : Scope} where
  -- a fault of the left operand is one of the operation
  pub left_fails : {o : Op} {x y : Scalar} {f : TypeFault} → FailsAsOperand scope x f → HasFault scope (Two o x y) f
  left_fails (own h) = left h
  left_fails (a_text i) = left_text i

  -- a text is no left operand
  pub text_fails : {x : Scalar} {s : Sc} {k : Kind} → IsOf scope x s k → k ≡ kind.Text → FailsAsOperand scope x (KindMismatch kind.Int kind.Text)
  text_fails {x} {s} i e = a_text (subst (λ j. IsOf scope x s j) e i)

  -- a fault of the kinds is one of the operation
  kinds_fail : {o : Op} {x y : Scalar} {s t : Sc} {k l : Kind} {f : TypeFault} → IsOf scope x s k → k ≢ kind.Text → IsOf scope y t l → op_kind (op_of o) k l ≡ None → f ≡ kinds_fault o k l → HasFault scope (Two o x y) f
  kinds_fail {o} {x} {y} i n j none e = subst (λ g. HasFault scope (Two o x y) g) (sym e) (kinds i n j none)

  -- the kind of each operation, and the fault where it has none
  module _ {x y : Scalar} {s t : Sc} {k l : Kind} where
    -- a sum has the kind that alike operands have
    pub sum_is : {m : Kind} → IsOf scope x s k → IsOf scope y t l → alike_kind k l ≡ Some m → IsOf scope (Two Add x y) (term.Two term.Add s t) m
    sum_is i j e = two i j e

    -- so has a difference
    pub difference_is : {m : Kind} → IsOf scope x s k → IsOf scope y t l → alike_kind k l ≡ Some m → IsOf scope (Two Sub x y) (term.Two term.Sub s t) m
    difference_is i j e = two i j e

    -- a product has the kind of a product
    pub product_is : {m : Kind} → IsOf scope x s k → IsOf scope y t l → product_kind k l ≡ Some m → IsOf scope (Two Mul x y) (term.Two term.Mul s t) m
    product_is i j e = two i j e

    -- MIN has the kind that alike operands have
    pub least_is : {m : Kind} → IsOf scope x s k → IsOf scope y t l → alike_kind k l ≡ Some m → IsOf scope (Two Min x y) (term.Two term.Min s t) m
    least_is i j e = two i j e

    -- so has MAX
    pub greatest_is : {m : Kind} → IsOf scope x s k → IsOf scope y t l → alike_kind k l ≡ Some m → IsOf scope (Two Max x y) (term.Two term.Max s t) m
    greatest_is i j e = two i j e

    -- a sum of kinds that aren't alike is refused
    pub sum_fails : {f : TypeFault} → IsOf scope x s k → k ≢ kind.Text → IsOf scope y t l → (alike_kind k l ≡ None) × (f ≡ KindMismatch k l) → HasFault scope (Two Add x y) f
    sum_fails i n j h = kinds_fail i n j h.0 h.1

    -- so is a difference
    pub difference_fails : {f : TypeFault} → IsOf scope x s k → k ≢ kind.Text → IsOf scope y t l → (alike_kind k l ≡ None) × (f ≡ KindMismatch k l) → HasFault scope (Two Sub x y) f
    difference_fails i n j h = kinds_fail i n j h.0 h.1

    -- a product of kinds that have none is refused
    pub product_fails : {f : TypeFault} → IsOf scope x s k → k ≢ kind.Text → IsOf scope y t l → (product_kind k l ≡ None) × (f ≡ product_fault k l) → HasFault scope (Two Mul x y) f
    product_fails i n j h = kinds_fail i n j h.0 h.1

    -- MIN of kinds that aren't alike is refused
    pub least_fails : {f : TypeFault} → IsOf scope x s k → k ≢ kind.Text → IsOf scope y t l → (alike_kind k l ≡ None) × (f ≡ KindMismatch k l) → HasFault scope (Two Min x y) f
    least_fails i n j h = kinds_fail i n j h.0 h.1

    -- so is MAX
    pub greatest_fails : {f : TypeFault} → IsOf scope x s k → k ≢ kind.Text → IsOf scope y t l → (alike_kind k l ≡ None) × (f ≡ KindMismatch k l) → HasFault scope (Two Max x y) f
    greatest_fails i n j h = kinds_fail i n j h.0 h.1
