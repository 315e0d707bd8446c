-- By what targets are known. No public clause cites this module.
use Rattle.std.specs.Prelude.{◌==◌, ◌&&◌, ℕ, Bool, None, Some}
use Rattle.std.specs.Option.{option_eq}
use Rattle.stream_readers.specs.declared.leaving.Gone.{Gone}
use Rattle.stream_readers.specs.declared.leaving.Gone.TheVariants as leaving
use Rattle.stream_readers.specs.declared.naming.Name.{Name}
use Rattle.stream_readers.specs.declared.target.Target.{Target}
use Rattle.stream_readers.specs.declared.target.Target.TheVariants as target

-- the name of the edge into a state
abbrev pub edge_name : ℕ → Name
edge_name state = record { state = state; end = None }

-- the name of the end at a place of a state
abbrev pub end_name : ℕ → ℕ → Name
end_name state place = record { state = state; end = Some place }

-- the name of a target
abbrev pub name_of : Target → Name
name_of (target.Edge state) = edge_name state
name_of (target.End end) = end_name end.state end.place

-- the name of the target that leaves
abbrev pub gone_name : Gone → Name
gone_name (leaving.Edge state) = edge_name state
gone_name (leaving.End left) = end_name left.state left.place

-- the name of the last end of the state from which one leaves; of an edge that leaves its own
abbrev pub last_name : Gone → Name
last_name (leaving.Edge state) = edge_name state
last_name (leaving.End left) = end_name left.state left.last

-- whether two names are one
abbrev pub is_same : Name → Name → Bool
is_same name other = (name.state == other.state) && option_eq (λ place at. place == at) name.end other.end
