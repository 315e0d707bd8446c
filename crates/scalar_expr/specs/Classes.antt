-- The classes of a conjunction's parts, by which instances and steps are looked up (this project's profile).
use Rattle.std.specs.Prelude.{ℕ, ℤ, Bool, true, false, List}
use Rattle.std.specs.List.{list_all}
use Rattle.event_types.specs.declared.comparison.Cmp.{Cmp}
use Rattle.event_types.specs.declared.comparison.Cmp.TheVariants as cmp
use Rattle.event_types.specs.declared.value.Value.{Value}
use Rattle.event_types.specs.declared.value.Value.TheVariants as value
use Rattle.semantics.specs.Scalars.{Lit, Event, Binding, Dur, Pr, Test}
use Rattle.scalar_expr.specs.declared.part.Part.{Part}
use Rattle.scalar_expr.specs.declared.part.Part.TheVariants as part

-- a fixed part compares an attribute of the event with a literal, a key part asks that an attribute of the event equals one of the binding, a bound part limits DUR, strictly or not, and the rest is all else
pub data Class : Type 0 where
  Fixed : ℕ → Cmp → Value → Class
  Key : ℕ → ℕ → Class
  Bound : Bool → ℤ → Class
  Rest : Class

-- the comparison that says the same with its operands exchanged
abbrev pub exchanged : Cmp → Cmp
exchanged cmp.Eq = cmp.Eq
exchanged cmp.Ne = cmp.Ne
exchanged cmp.Lt = cmp.Gt
exchanged cmp.Le = cmp.Ge
exchanged cmp.Gt = cmp.Lt
exchanged cmp.Ge = cmp.Le

-- an attribute of the event against a literal; `<>` is no fixed part
abbrev pub fixed : ℕ → Cmp → Value → Class
fixed place cmp.Ne v = Rest
fixed place c v = Fixed place c v

-- an attribute of the event against one of the binding; only `=` makes a key part
abbrev pub keyed : ℕ → Cmp → ℕ → Class
keyed place cmp.Eq bound = Key place bound
keyed place c bound = Rest

-- DUR against a number; only `<` and `<=` make a bound part
abbrev pub bounded : Cmp → ℤ → Class
bounded cmp.Lt most = Bound true most
bounded cmp.Le most = Bound false most
bounded c most = Rest

-- the class of a part; a literal and a binding may stand on either side
abbrev pub class_of : Pr → Class
class_of (Test (Event place) c (Lit v)) = fixed place c v
class_of (Test (Lit v) c (Event place)) = fixed place (exchanged c) v
class_of (Test (Event place) c (Binding bound)) = keyed place c bound
class_of (Test (Binding bound) c (Event place)) = keyed place c bound
class_of (Test Dur c (Lit (value.Int most))) = bounded c most
class_of p = Rest

-- the class that is handed out, without where its literal lies in memory
abbrev pub class_of_part : Part → Class
class_of_part (part.Fixed place c v) = Fixed place c v.now
class_of_part (part.Key place bound) = Key place bound
class_of_part (part.Bound strict most) = Bound strict most
class_of_part part.Rest = Rest

-- whether a class is that of fixed parts
abbrev pub is_fixed_class : Class → Bool
is_fixed_class (Fixed place c v) = true
is_fixed_class class = false

-- whether a part is fixed
abbrev pub is_fixed : Pr → Bool
is_fixed p = is_fixed_class (class_of p)

-- whether all parts are
abbrev pub are_fixed : List Pr → Bool
are_fixed parts = list_all is_fixed parts
