use Rattle.std.proofs.Common.{◌≡◌, ◌==◌, map, take}
use Rattle.std.specs.List.{filter}
use Rattle.event_types.specs.Order.{sorted}
use Rattle.event_types.specs.Tuple.{TupleView}
use Rattle.semantics.specs.Denotation.{streams_of}
use Rattle.reference.specs.declared.query.Query.{Query}
use Rattle.reference.proofs.publishing.tuples_of_each.Given as goal

-- the batch has a list for each of the queries so far
abbrev pub invariant-loop-query : goal.invariant-loop-query
invariant-loop-query l = l.batch ≡ map (λ (query : Query). sorted (filter (λ (tuple : TupleView). tuple.at == l.time) (streams_of l.streams query.stream))) (take l.query-index l.queries)
