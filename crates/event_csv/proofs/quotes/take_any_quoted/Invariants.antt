use Rattle.std.proofs.Common.{length}
use Rattle.std.specs.Prelude.{string_bytes}
use Rattle.event_csv.proofs.QuoteFacts.{ReadSoFar}
use Rattle.event_csv.proofs.quotes.take_any_quoted.Given as goal

abbrev pub invariant-pieces : goal.invariant-pieces
invariant-pieces l = ReadSoFar l.text (string_bytes l.field) l.rest

abbrev pub decreases-pieces : goal.decreases-pieces
decreases-pieces l = length l.rest
