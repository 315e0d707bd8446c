-- The bindings that a later event may still match, as far as the bounds on DUR tell.
use Rattle.std.specs.Prelude.{ℕ, pos, ◌-ℤ◌, int_lt, int_le, Bool, true, false, List}
use Rattle.std.specs.List.{filter, list_all}
use Rattle.event_types.specs.Tuple.{TupleView}
use Rattle.semantics.specs.Scalars.{Pr}
use Rattle.scalar_expr.specs.Classes.{Class, Bound, class_of}

-- whether an event that is detected at a time meets a bound part with a binding; other parts tell nothing
abbrev pub meets_bound : ℕ → TupleView → Class → Bool
meets_bound time binding (Bound true most) = int_lt (pos time -ℤ pos binding.from) most
meets_bound time binding (Bound false most) = int_le (pos time -ℤ pos binding.from) most
meets_bound time binding part = true

-- whether the binding meets each bound part of the condition at a time
abbrev pub is_alive : ℕ → List Pr → TupleView → Bool
is_alive time choose binding = list_all (λ part. meets_bound time binding (class_of part)) choose

-- the bindings that meet each bound part at a time
abbrev pub alive : ℕ → List Pr → List TupleView → List TupleView
alive time choose bindings = filter (is_alive time choose) bindings
