use Rattle.std.proofs.Common.{List, ℕ, subst}
use Rattle.event_types.specs.Tuple.{TupleView}
use Rattle.reference.proofs.HearingLemmas.{IsBatch, batch_is}
use Rattle.reference.proofs.evaluator.Evaluator.close.Goals as goal

-- the batch is the results over each history that was heard
pub returns-clause-value : goal.returns-clause-value
returns-clause-value g c =
    subst (λ (given : List ℕ × List (List TupleView)). IsBatch c.args.queries.now given.0 c.args.time c.batch_of-batch.result given.1) (λ i. (c.as_slice.ensures i, c.self.view_is i))
    (batch_is c.args.queries.now c.as_slice.result.now c.args.time c.self.inside.lists c.batch_of-batch.result c.batch_of-batch.ensures.value)
