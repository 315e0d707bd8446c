use Rattle.std.proofs.Common.{◌-◌, length, option_map}
use Rattle.stream_schema.specs.Schema.{kinds_of}
use Rattle.event_csv.proofs.QuickFacts.{SoFar}
use Rattle.event_csv.proofs.copied.take_any_values.Given as goal

abbrev pub invariant-fields : goal.invariant-fields
invariant-fields l = SoFar (kinds_of l.schema) (option_map (λ s. s.now) l.fn.rest) (option_map (λ s. s.now) l.rest) l.vals

abbrev pub decreases-fields : goal.decreases-fields
decreases-fields l = length l.schema - length l.vals
