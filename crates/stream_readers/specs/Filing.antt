-- Targets and waiting states as they stand in the indexes of a stream.
use Rattle.std.specs.Prelude.{◌≡◌, ◌==◌, ℕ, Bool, List, [], ◌∷◌, Option, Some, None, is_some, map, option_to_list, slice_index_or}
use Rattle.std.specs.List.{filter, flat_map, list_any}
use Rattle.event_types.specs.Tuple.{TupleView}
use Rattle.automaton.specs.States.{Net}
use Rattle.static_index.specs.Conditions.{Condition}
use Rattle.static_index.specs.FixedParts.{all_hold}
use Rattle.static_index.specs.declared.fixed_part.FixedPart.{FixedPart}
use Rattle.stream_readers.specs.Targets.{step_to}
use Rattle.stream_readers.specs.Ways.{first_parts, parts_at}
use Rattle.stream_readers.specs.declared.target.Target.{Target}

-- a target, and the fixed parts under which it is found
pub record Filed : Type 0 where
  pub target : Target
  pub parts : List FixedPart

-- places for targets, of which some are free
abbrev pub Slots : Type 0
Slots = List (Option Target)

-- the target at a place, if it isn't free
abbrev pub slot_at : Slots → ℕ → Option Target
slot_at slots place = slice_index_or slots place None

-- the target of a place, filed under these parts
abbrev pub filed_under : List FixedPart → Option Target → List Filed
filed_under parts None = []
filed_under parts (Some target) = record { target = target; parts = parts } ∷ []

-- the target at the place that a condition names, under its parts
abbrev pub filed_by : Slots → Condition → List Filed
filed_by slots condition = filed_under condition.parts (slot_at slots condition.id)

-- the targets of the conditions of an index
abbrev pub filed_in : Slots → List Condition → List Filed
filed_in slots conditions = flat_map (filed_by slots) conditions

-- whether a condition has the id
abbrev pub has_id : ℕ → List Condition → Bool
has_id id conditions = list_any (λ condition. condition.id == id) conditions

-- a place that isn't free is one that a condition names, and no other is
abbrev pub AreAtPlaces : Slots → List Condition → Type 0
AreAtPlaces slots conditions = (place : ℕ) → has_id place conditions ≡ is_some (slot_at slots place)

-- the targets at these places
abbrev pub at_places : Slots → List ℕ → List Target
at_places slots places = flat_map (λ place. option_to_list (slot_at slots place)) places

-- the targets whose fixed parts all hold for a tuple
abbrev pub targets_met : TupleView → List Filed → List Target
targets_met tuple filed = map (λ one. one.target) (filter (λ one. all_hold tuple one.parts) filed)

-- a target under what its step asks first
abbrev pub filed_to : Net → Target → Filed
filed_to net target = record { target = target; parts = first_parts (step_to net target) }

-- a waiting state, by its number, under what it asks of a tuple alone
abbrev pub waiting_as : Net → ℕ → Condition
waiting_as net number = record { id = number; parts = parts_at net number }
