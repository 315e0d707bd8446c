-- The fixed parts of conditions, and when they hold for an event.
use Rattle.std.specs.Prelude.{Bool, true, List, [], ◌∷◌, Option, Some, None}
use Rattle.std.specs.List.{filter_map, list_all}
use Rattle.event_types.specs.Tuple.{TupleView}
use Rattle.semantics.specs.Scalars.{Pr}
use Rattle.semantics.specs.Truth.{is_met, order_of}
use Rattle.semantics.specs.Values.{value_at}
use Rattle.scalar_expr.specs.Classes.{Class, Fixed, Key, Bound, Rest, class_of}
use Rattle.static_index.specs.declared.fixed_part.FixedPart.{FixedPart}

-- a class as a fixed part, if it is one
abbrev pub fixed_part_of : Class → Option FixedPart
fixed_part_of (Fixed attr cmp lit) = Some (record { attr = attr; cmp = cmp; lit = lit })
fixed_part_of (Key event binding) = None
fixed_part_of (Bound strict most) = None
fixed_part_of Rest = None

-- the fixed parts of a condition, in its order
abbrev pub fixed_parts : List Pr → List FixedPart
fixed_parts condition = filter_map (λ part. fixed_part_of (class_of part)) condition

-- whether a fixed part holds for an event; an attribute that is OVER, or isn't there, meets no comparison
abbrev pub part_holds : TupleView → FixedPart → Bool
part_holds event part = is_met part.cmp (order_of (value_at event part.attr) part.lit)

-- whether a fixed part holds, where there is one
abbrev pub holds_if_any : TupleView → Option FixedPart → Bool
holds_if_any event None = true
holds_if_any event (Some part) = part_holds event part

-- whether the first of the parts holds, or there is none
abbrev pub first_holds : TupleView → List FixedPart → Bool
first_holds event [] = true
first_holds event (part ∷ parts) = part_holds event part

-- whether all the parts hold
abbrev pub all_hold : TupleView → List FixedPart → Bool
all_hold event parts = list_all (part_holds event) parts
