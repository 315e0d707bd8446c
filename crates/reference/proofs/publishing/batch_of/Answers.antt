use Rattle.std.proofs.Common.{◌≡◌, ◌==◌, length, map, subst}
use Rattle.std.specs.Prelude.{IfOk}
use Rattle.std.specs.List.{filter}
use Rattle.event_types.specs.Order.{sorted}
use Rattle.event_types.specs.Tuple.{TupleView}
use Rattle.semantics.specs.Denotation.{Streams}
use Rattle.reference.specs.declared.query.Query.{Query}
use Rattle.reference.proofs.PublishingLemmas.{streams_below}
use Rattle.reference.proofs.publishing.batch_of.Goals as goal

-- each query's stream was published
pub tuples_of_each-requires : goal.tuples_of_each-requires
tuples_of_each-requires g c =
    streams_below (length c.args.streams.now) (length c.publish.new.streams) c.args.queries.now c.args.order.now c.requires.same_queries c.requires.next
    c.in_ok-publish.ensures.count

-- the streams are those that were published
pub returns-clause-value : goal.returns-clause-value
returns-clause-value g c =
    subst (λ (streams : Streams). IfOk c.tuples_of_each.result (λ batch. batch ≡ map (λ (query : Query). sorted (filter (λ (tuple : TupleView). tuple.at == c.args.time) (streams query.stream))) c.args.queries.now))
    c.in_ok-publish.ensures.published c.tuples_of_each.ensures
