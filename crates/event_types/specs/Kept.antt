-- How a tuple keeps its values. No public clause cites it.
use Rattle.std.specs.Prelude.{List}
use Rattle.std.specs.Rc.{rc_value}
use Rattle.event_types.specs.declared.tuple.Kept.{Kept}
use Rattle.event_types.specs.declared.tuple.Kept.TheVariants as kept
use Rattle.event_types.specs.declared.value.Value.{Value}

-- the values that are kept
abbrev pub kept_vals : Kept → List Value
kept_vals (kept.Own vals) = vals
kept_vals (kept.Shared vals) = rc_value vals
