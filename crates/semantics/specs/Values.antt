-- The value of a scalar over an event and, where one is given, a binding.
use Rattle.std.specs.Prelude.{ℕ, ◌+◌, ◌==◌, ℤ, pos, negsuc, ◌^◌, ◌+ℤ◌, ◌-ℤ◌, ◌*ℤ◌, Bool, nat_lt, nat_le, if◌then◌else◌, List, map, Option, Some, None, slice_index_or}
use Rattle.std.specs.Int.{int_min, int_max}
use Rattle.event_types.specs.declared.value.Value.{Value}
use Rattle.event_types.specs.declared.value.Value.TheVariants as value
use Rattle.event_types.specs.Tuple.{TupleView}
use Rattle.semantics.specs.Scalars.{Op, Add, Sub, Mul, Min, Max, Sc, Lit, Event, Binding, Dur, Two}

-- whether a whole number lies from -2^127 to 2^127-1
abbrev pub is_in_range : ℤ → Bool
is_in_range (pos n) = nat_lt n (2 ^ 127)
is_in_range (negsuc n) = nat_lt n (2 ^ 127)

-- the number itself in that range, and OVER outside it (this project's profile)
abbrev pub clipped : ℤ → Value
clipped z = if is_in_range z then value.Int z else value.Over

-- the exact result of an operation
abbrev pub result_of : Op → ℤ → ℤ → ℤ
result_of Add x y = x +ℤ y
result_of Sub x y = x -ℤ y
result_of Mul x y = x *ℤ y
result_of Min x y = int_min x y
result_of Max x y = int_max x y

-- the decimal of these units, and OVER where they are outside that range
abbrev pub scaled : ℕ → ℤ → Value
scaled scale z = if is_in_range z then value.Dec scale z else value.Over

-- the product of two decimals, which has as many places as both together; where these are more than 18, it is OVER
abbrev pub product : ℕ → ℤ → ℕ → ℤ → Value
product s x t y = if nat_le (s + t) 18 then scaled (s + t) (x *ℤ y) else value.Over

-- an operation is on two whole numbers, or on the units of two decimals of one scale; a product may be of two scales, where a whole number has scale 0; every other operation is OVER, each with OVER included
abbrev pub combined : Op → Value → Value → Value
combined op (value.Int x) (value.Int y) = clipped (result_of op x y)
combined Mul (value.Int x) (value.Dec t y) = scaled t (x *ℤ y)
combined Mul (value.Dec s x) (value.Int y) = scaled s (x *ℤ y)
combined Mul (value.Dec s x) (value.Dec t y) = product s x t y
combined op (value.Dec s x) (value.Dec t y) = if s == t then scaled s (result_of op x y) else value.Over
combined op x y = value.Over

-- the value at a place of a tuple
abbrev pub value_at : TupleView → ℕ → Value
value_at tuple place = slice_index_or tuple.vals place value.Over

-- the value at a place of the binding
abbrev pub bound_at : Option TupleView → ℕ → Value
bound_at None place = value.Over
bound_at (Some binding) place = value_at binding place

-- where the span of DUR begins: at the start of the binding, and without a binding at that of the event itself
abbrev pub span_start : TupleView → Option TupleView → ℕ
span_start event None = event.from
span_start event (Some binding) = binding.from

-- the value of a scalar (EDBT 2006, predicates; OVER is this project's profile)
abbrev pub val : Sc → TupleView → Option TupleView → Value
val (Lit v) event binding = v
val (Event place) event binding = value_at event place
val (Binding place) event binding = bound_at binding place
val Dur event binding = value.Int (pos event.at -ℤ pos (span_start event binding))
val (Two op x y) event binding = combined op (val x event binding) (val y event binding)

-- the tuple of the scalars' values, with these times
abbrev pub applied : List Sc → TupleView → Option TupleView → ℕ → ℕ → TupleView
applied parts event binding from at = record { vals = map (λ s. val s event binding) parts; from = from; at = at }
