use Rattle.public_calls.proofs.TwoQueries.{turned}
use Rattle.public_calls.proofs.tests.closings.close.Goals as goal

pub close-requires-clause-same_queries : goal.close-requires-clause-same_queries
close-requires-clause-same_queries g c = turned _ _ _ c.in_ok-order.ensures
