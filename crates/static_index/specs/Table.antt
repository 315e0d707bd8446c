-- What the table of an index says of its conditions. No public clause cites it.
use Rattle.std.specs.Prelude.{ℕ, Bool, false, List, map, Option, Some, None}
use Rattle.std.specs.List.{filter}
use Rattle.event_types.specs.Tuple.{TupleView}
use Rattle.static_index.specs.Conditions.{Condition, ids_of}
use Rattle.static_index.specs.Entries.{entry_of}
use Rattle.static_index.specs.FixedParts.{all_hold, first_holds}
use Rattle.static_index.specs.declared.entry.Asked.{Asked}
use Rattle.static_index.specs.declared.entry.Asked.TheVariants as asked
use Rattle.static_index.specs.declared.entry.Entry.{Entry}
use Rattle.static_index.specs.declared.fixed_part.FixedPart.{FixedPart}

-- an entry as a condition
abbrev pub condition_of : ℕ × Entry → Condition
condition_of e = record { id = e.0; parts = e.1.parts }

-- the conditions in the order of the table's entries
abbrev pub conditions_of : List (ℕ × Entry) → List Condition
conditions_of entries = map condition_of entries

-- whether the parts that are asked hold for an event
abbrev pub holds_as : Asked → TupleView → List FixedPart → Bool
holds_as asked.First event parts = first_holds event parts
holds_as asked.All event parts = all_hold event parts

-- whether there is an entry, and its parts that are asked hold
abbrev pub entry_meets : Asked → TupleView → Option Entry → Bool
entry_meets asked event None = false
entry_meets asked event (Some entry) = holds_as asked event entry.parts

-- the same of the entry with an id
abbrev pub meets : List (ℕ × Entry) → Asked → TupleView → ℕ → Bool
meets entries asked event id = entry_meets asked event (entry_of id entries)

-- the ids of the conditions whose parts that are asked hold
abbrev pub asked_ids : Asked → TupleView → List Condition → List ℕ
asked_ids asked event conditions = ids_of (filter (λ condition. holds_as asked event condition.parts) conditions)
