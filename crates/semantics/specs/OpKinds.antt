-- The kind of an operation by the kinds of its operands.
use Rattle.std.specs.Prelude.{◌+◌, ◌==◌, nat_le, if◌then◌else◌, Option, Some, None}
use Rattle.event_types.specs.declared.kind.Kind.{Kind}
use Rattle.event_types.specs.declared.kind.Kind.TheVariants as kind
use Rattle.semantics.specs.Scalars.{Op, Mul}

-- a sum, a difference, MIN and MAX are of the kind of their operands: both are whole numbers, or decimals of one scale
abbrev pub alike_kind : Kind → Kind → Option Kind
alike_kind kind.Int kind.Int = Some kind.Int
alike_kind (kind.Dec s) (kind.Dec t) = if s == t then Some (kind.Dec s) else None
alike_kind k l = None

-- a product of whole numbers is one; any other one is a decimal of as many places as both operands have together, which are at most 18; a whole number has none
abbrev pub product_kind : Kind → Kind → Option Kind
product_kind kind.Int kind.Int = Some kind.Int
product_kind kind.Int (kind.Dec t) = Some (kind.Dec t)
product_kind (kind.Dec s) kind.Int = Some (kind.Dec s)
product_kind (kind.Dec s) (kind.Dec t) = if nat_le (s + t) 18 then Some (kind.Dec (s + t)) else None
product_kind k l = None

-- the kind of an operation on operands of these kinds, where it has one
abbrev pub op_kind : Op → Kind → Kind → Option Kind
op_kind Mul k l = product_kind k l
op_kind op k l = alike_kind k l
