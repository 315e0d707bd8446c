use Rattle.std.proofs.Common.{◌≡◌, ◌+◌, drop, length}
use Rattle.stream_schema.specs.Schema.{kinds_of}
use Rattle.event_csv.specs.Event.{values_of}
use Rattle.event_csv.specs.Fields.{fields_left}
use Rattle.event_csv.proofs.ValueFacts.{onto}
use Rattle.event_csv.proofs.event.read_values.Given as goal

abbrev pub invariant-fields : goal.invariant-fields
invariant-fields l = record {
  whole : values_of 4 (kinds_of l.schema) (fields_left l.fn.fields) ≡ onto l.vals (values_of (length l.vals + 4) (drop (length l.vals) (kinds_of l.schema)) (fields_left l.fields));
  many : length l.vals + length (fields_left l.fields) ≡ length l.schema;
}

abbrev pub decreases-fields : goal.decreases-fields
decreases-fields l = length (fields_left l.fields)
