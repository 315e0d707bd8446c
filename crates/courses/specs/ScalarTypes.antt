-- The term and the kind of a scalar, or its first fault, by computing.
use Rattle.std.specs.Prelude.{ℕ, List, Option, Some, None, Result, Ok, Err, if◌then◌else◌}
use Rattle.event_types.specs.declared.kind.Kind.{Kind}
use Rattle.event_types.specs.declared.kind.Kind.TheVariants as kind
use Rattle.event_types.specs.declared.value.Value.TheVariants as value
use Rattle.semantics.specs.OpKinds.{op_kind}
use Rattle.semantics.specs.Scalars as term
use Rattle.cel_grammar.specs.Trees.{Op, Scalar}
use Rattle.cel_grammar.specs.Trees as tree
use Rattle.cel_types.specs.declared.fault.TypeFault.{TypeFault}
use Rattle.cel_types.specs.declared.fault.TypeFault.TheVariants.{UnknownAttr, KindMismatch}
use Rattle.cel_types.specs.Scalars.{kinds_fault, op_of}
use Rattle.cel_types.specs.Scopes.{Scope, Typed, attribute, written}
use Rattle.cel_types.specs.Unions.{is_kind}
use Rattle.courses.specs.FirstFault.{◌>>=◌}

-- an attribute that is written so, where it was found
abbrev pub attribute_type : List ℕ → Option Typed → Result Typed TypeFault
attribute_type name (Some one) = Ok one
attribute_type name None = Err (UnknownAttr name)

-- a left operand: a text is refused, with INT wanted
abbrev pub operand_type : Typed → Result Typed TypeFault
operand_type one = if is_kind one.kind kind.Text then Err (KindMismatch kind.Int kind.Text) else Ok one

-- an operation, where it has a kind of those of its operands
abbrev pub operation_type : Op → Typed → Typed → Option Kind → Result Typed TypeFault
operation_type o x y (Some k) = Ok (record { term = term.Two (op_of o) x.term y.term; kind = k })
operation_type o x y None = Err (kinds_fault o x.kind y.kind)

-- the term and the kind of a scalar: the left operand's fault comes first, then that it is a text; the right operand's, then that the operation has no kind for both
abbrev pub scalar_type : Scope → Scalar → Result Typed TypeFault
scalar_type scope (tree.Number n) = Ok (record { term = term.Lit (value.Int n); kind = kind.Int })
scalar_type scope (tree.Quoted t) = Ok (record { term = term.Lit (value.Text t); kind = kind.Text })
scalar_type scope (tree.Attr m a) = attribute_type (written m a) (attribute scope m a)
scalar_type scope tree.Dur = Ok (record { term = term.Dur; kind = kind.Int })
scalar_type scope (tree.Two o x y) = scalar_type scope x >>= λ s. operand_type s >>= λ l. scalar_type scope y >>= λ r. operation_type o l r (op_kind (op_of o) l.kind r.kind)
scalar_type scope (tree.Decimal scale units) = Ok (record { term = term.Lit (value.Dec scale units); kind = kind.Dec scale })
