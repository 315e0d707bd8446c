-- Ids under the headings of an attribute. No public clause cites it.
use Rattle.std.specs.Prelude.{ℕ, List, Contains}
use Rattle.event_types.specs.declared.comparison.Cmp.{Cmp}
use Rattle.event_types.specs.declared.comparison.Cmp.TheVariants as cmp
use Rattle.event_types.specs.declared.value.Value.{Value}
use Rattle.static_index.specs.Buckets.{hashed_ids}
use Rattle.static_index.specs.Headings.{IsMetBy, Label, Part, Within}
use Rattle.static_index.specs.Limits.{limit_ids}
use Rattle.static_index.specs.Spans.{span_ids}
use Rattle.static_index.specs.declared.column.Column.{Column}

-- the ids under a comparison with a literal
abbrev pub ids_compared : Column → Cmp → Value → List ℕ
ids_compared column cmp.Eq lit = hashed_ids column.equal lit
ids_compared column cmp.Ne lit = column.unequal
ids_compared column cmp.Lt lit = limit_ids column.below lit
ids_compared column cmp.Le lit = limit_ids column.below lit
ids_compared column cmp.Gt lit = limit_ids column.above lit
ids_compared column cmp.Ge lit = limit_ids column.above lit

-- the ids under a label
abbrev pub ids_under : Column → Label → List ℕ
ids_under column (Part part) = ids_compared column part.cmp part.lit
ids_under column (Within span) = span_ids column.spans span

-- each id under a label that a value meets is found
abbrev pub FindsUnder : Value → Column → List ℕ → Type 0
FindsUnder value column found = (label : Label) (n : ℕ) → IsMetBy value label → Contains (ids_under column label) n → Contains found n
