use Rattle.std.proofs.Common.{ℕ, ◌<◌}
use Rattle.catalogue.specs.Leaving.{LeavesUnread}
use Rattle.catalogue.proofs.accepted.Catalogue.reader_of.Given as goal

-- none of the queries so far reads the stream
abbrev pub invariant-loop-query : goal.invariant-loop-query
invariant-loop-query l = (number : ℕ) → number < l.query → LeavesUnread l.self l.stream number
