-- The truth of a predicate over an event and, where one is given, a binding.
use Rattle.std.specs.Prelude.{◌==◌, if◌then◌else◌, Bool, true, false, not, ◌&&◌, ◌||◌, List, Option, Some, None}
use Rattle.std.specs.Cmp.Lexicographic.{slice_cmp}
use Rattle.std.specs.List.{list_all}
use Rattle.std.specs.declared.cmp.Ordering.{Ordering}
use Rattle.std.specs.Ordering.{int_cmp, nat_cmp, is_eq, is_ne, is_lt, is_le, is_gt, is_ge}
use Rattle.event_types.specs.declared.comparison.Cmp.{Cmp}
use Rattle.event_types.specs.declared.comparison.Cmp.TheVariants as cmp
use Rattle.event_types.specs.declared.value.Value.{Value}
use Rattle.event_types.specs.declared.value.Value.TheVariants as value
use Rattle.event_types.specs.Tuple.{TupleView}
use Rattle.semantics.specs.Scalars.{Pr, True, Test, And, Or, Not}
use Rattle.semantics.specs.Values.{val}

-- two whole numbers are ordered by size, two decimals of one scale by units, two texts by bytes; no other two values have an order, and OVER has none with any
abbrev pub order_of : Value → Value → Option Ordering
order_of (value.Int x) (value.Int y) = Some (int_cmp x y)
order_of (value.Dec s x) (value.Dec t y) = if s == t then Some (int_cmp x y) else None
order_of (value.Text x) (value.Text y) = Some (slice_cmp nat_cmp x y)
order_of x y = None

-- whether a comparison accepts an order of its operands
abbrev pub is_accepted : Cmp → Ordering → Bool
is_accepted cmp.Eq order = is_eq order
is_accepted cmp.Ne order = is_ne order
is_accepted cmp.Lt order = is_lt order
is_accepted cmp.Le order = is_le order
is_accepted cmp.Gt order = is_gt order
is_accepted cmp.Ge order = is_ge order

-- the same where there may be no order: then each comparison is false, `<>` included (this project's profile)
abbrev pub is_met : Cmp → Option Ordering → Bool
is_met c None = false
is_met c (Some order) = is_accepted c order

-- the truth of a predicate; AND, OR and NOT are two-valued
abbrev pub truth : Pr → TupleView → Option TupleView → Bool
truth True event binding = true
truth (Test x c y) event binding = is_met c (order_of (val x event binding) (val y event binding))
truth (And p q) event binding = truth p event binding && truth q event binding
truth (Or p q) event binding = truth p event binding || truth q event binding
truth (Not p) event binding = not (truth p event binding)

-- a conjunction is true where all its parts are
abbrev pub all_true : List Pr → TupleView → Option TupleView → Bool
all_true parts event binding = list_all (λ p. truth p event binding) parts
