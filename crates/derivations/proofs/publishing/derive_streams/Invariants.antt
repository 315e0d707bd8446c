use Rattle.std.proofs.Common.{drop, map}
use Rattle.derivations.specs.DerivedPrograms.{derived_declared, derived_in_turn}
use Rattle.derivations.specs.HeardLines.{events_of}
use Rattle.derivations.specs.Queries.{query_of}
use Rattle.derivations.proofs.PublishLemmas.{IsLeft}
use Rattle.derivations.proofs.publishing.derive_streams.Given as goal

-- what is left is the queries from here on
abbrev pub invariant-loop-query : goal.invariant-loop-query
invariant-loop-query g l = IsLeft l.declared l.count (derived_in_turn l.declared (derived_declared l.declared (events_of l.history)) (map query_of l.queries)) l.streams (drop l.query-index l.queries)
