-- The types of scalars, and their first fault: operands from left to right.
use Rattle.std.specs.Prelude.{◌≡◌, ◌≢◌, ◌+◌, ℕ, ℤ, Some, None, List}
use Rattle.event_types.specs.declared.kind.Kind.{Kind}
use Rattle.event_types.specs.declared.kind.Kind.TheVariants as kind
use Rattle.event_types.specs.declared.value.Value.TheVariants as value
use Rattle.semantics.specs.OpKinds.{op_kind}
use Rattle.semantics.specs.Scalars.{Sc}
use Rattle.semantics.specs.Scalars as term
use Rattle.cel_grammar.specs.declared.mark.Mark.{Mark}
use Rattle.cel_grammar.specs.Trees.{Op, Scalar}
use Rattle.cel_grammar.specs.Trees as tree
use Rattle.cel_types.specs.declared.fault.TypeFault.{TypeFault}
use Rattle.cel_types.specs.declared.fault.TypeFault.TheVariants.{UnknownAttr, KindMismatch, TooFine}
use Rattle.cel_types.specs.Scopes.{Scope, attribute, written}

-- the operation as one of terms
abbrev pub op_of : Op → term.Op
op_of tree.Add = term.Add
op_of tree.Sub = term.Sub
op_of tree.Mul = term.Mul
op_of tree.Min = term.Min
op_of tree.Max = term.Max

-- the scalar means a term of a kind: numbers and DUR are INT, decimals are DEC of their scale, texts are TEXT, attributes as their schema says, and operations by the kinds of their operands
pub data IsOf (scope : Scope) : Scalar → Sc → Kind → Type 0 where
  number : {n : ℤ} → IsOf scope (tree.Number n) (term.Lit (value.Int n)) kind.Int
  decimal : {scale : ℕ} {units : ℤ} → IsOf scope (tree.Decimal scale units) (term.Lit (value.Dec scale units)) (kind.Dec scale)
  quoted : {t : List ℕ} → IsOf scope (tree.Quoted t) (term.Lit (value.Text t)) kind.Text
  attr : {m : Mark} {a : List ℕ} {s : Sc} {k : Kind} → attribute scope m a ≡ Some (record { term = s; kind = k }) → IsOf scope (tree.Attr m a) s k
  dur : IsOf scope tree.Dur term.Dur kind.Int
  two : {o : Op} {x y : Scalar} {s t : Sc} {k l m : Kind} → IsOf scope x s k → IsOf scope y t l → op_kind (op_of o) k l ≡ Some m → IsOf scope (tree.Two o x y) (term.Two (op_of o) s t) m

-- what is wrong with the kinds of a product's operands, of which the left one is no text: their places together, which are more than 18, or else that the right one isn't INT
abbrev pub product_fault : Kind → Kind → TypeFault
product_fault (kind.Dec s) (kind.Dec t) = TooFine (s + t)
product_fault k l = KindMismatch kind.Int l

-- what is wrong with the kinds of an operation's operands where it has no kind of them: of any other one than a product, that the right one isn't of the left one's kind
abbrev pub kinds_fault : Op → Kind → Kind → TypeFault
kinds_fault tree.Mul k l = product_fault k l
kinds_fault o k l = KindMismatch k l

-- the first fault of a scalar: the left operand's, then that it is a text; the right operand's, then that the operation has no kind of theirs
pub data HasFault (scope : Scope) : Scalar → TypeFault → Type 0 where
  unknown : {m : Mark} {a : List ℕ} → attribute scope m a ≡ None → HasFault scope (tree.Attr m a) (UnknownAttr (written m a))
  left : {o : Op} {x y : Scalar} {f : TypeFault} → HasFault scope x f → HasFault scope (tree.Two o x y) f
  left_text : {o : Op} {x y : Scalar} {s : Sc} → IsOf scope x s kind.Text → HasFault scope (tree.Two o x y) (KindMismatch kind.Int kind.Text)
  right : {o : Op} {x y : Scalar} {s : Sc} {k : Kind} {f : TypeFault} → IsOf scope x s k → k ≢ kind.Text → HasFault scope y f → HasFault scope (tree.Two o x y) f
  kinds : {o : Op} {x y : Scalar} {s t : Sc} {k l : Kind} → IsOf scope x s k → k ≢ kind.Text → IsOf scope y t l → op_kind (op_of o) k l ≡ None → HasFault scope (tree.Two o x y) (kinds_fault o k l)
