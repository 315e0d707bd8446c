-- Ids under one heading of each condition. No public clause cites it.
use Rattle.std.specs.Prelude.{ℕ, List, [], Option, Some, None, Contains}
use Rattle.std.specs.BTreeMap.{get}
use Rattle.std.specs.Ordering.{nat_cmp}
use Rattle.event_types.specs.Tuple.{TupleView}
use Rattle.event_types.specs.declared.comparison.Cmp.TheVariants.{Eq}
use Rattle.static_index.specs.Columns.{ids_under}
use Rattle.static_index.specs.Headings.{Label, MeetsAny, Part, attr_of}
use Rattle.static_index.specs.declared.column.Column.{Column}
use Rattle.static_index.specs.declared.fixed_part.FixedPart.{FixedPart}
use Rattle.static_index.specs.declared.tables.Tables.{Tables}

-- the ids under a label in a column, if there is one
abbrev pub ids_in_column : Option Column → Label → List ℕ
ids_in_column None label = []
ids_in_column (Some column) label = ids_under column label

-- the ids under a label, or the rest
abbrev pub filed_ids : Tables → Option Label → List ℕ
filed_ids tables None = tables.rest
filed_ids tables (Some label) = ids_in_column (get nat_cmp tables.columns (attr_of label)) label

-- each id under a label that an event meets, and the rest, is found
abbrev pub FindsFiled : TupleView → Tables → List ℕ → Type 0
FindsFiled event tables found = (label : Option Label) (n : ℕ) → MeetsAny event label → Contains (filed_ids tables label) n → Contains found n

-- equality with the literal of a part
abbrev pub equality : FixedPart → Label
equality part = Part (record { attr = part.attr; cmp = Eq; lit = part.lit })
