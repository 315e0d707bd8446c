use Rattle.binding_index.proofs.MapLemmas.{reordered}
use Rattle.binding_index.proofs.arranging.exchange.Goals as goal

pub returns-then-place-other-clause-same : goal.returns-then-place-other-clause-same
returns-then-place-other-clause-same c = reordered c.args.buckets.now c.swap_indices.new.self c.swap_indices.ensures.reordered
