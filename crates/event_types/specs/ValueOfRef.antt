-- A value that is looked at in place, as the value.
use Rattle.event_types.specs.declared.value.Value.{Value}
use Rattle.event_types.specs.declared.value.Value.TheVariants as value
use Rattle.event_types.specs.declared.value.ValueRef.{ValueRef}
use Rattle.event_types.specs.declared.value.ValueRef.TheVariants as look

-- the value that is looked at
abbrev pub value_of_ref : ValueRef → Value
value_of_ref (look.Int number) = value.Int number
value_of_ref look.Over = value.Over
value_of_ref (look.Text text) = value.Text text.now
value_of_ref (look.Dec scale units) = value.Dec scale units
