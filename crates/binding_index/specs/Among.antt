-- Keys among others.
use Rattle.std.specs.Prelude.{Bool, List}
use Rattle.std.specs.List.{list_any}
use Rattle.std.specs.Ordering.{eq_by_cmp}
use Rattle.event_types.specs.Order.{value_cmp}
use Rattle.event_types.specs.declared.value.Value.{Value}

-- whether a value is the key
abbrev pub is_key : Value → Value → Bool
is_key key value = eq_by_cmp value_cmp key value

-- whether the key is one of these
abbrev pub is_among : Value → List Value → Bool
is_among key keys = list_any (is_key key) keys
