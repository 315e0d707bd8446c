use Rattle.std.proofs.Common.{rules}
use Rattle.std.proofs.lemmas.List.Sorted.{IsNonDecreasingBy-from_sort_by_key}
use Rattle.epoch_engine.proofs.listing.sort_due.Goals as goal

-- the turns don't fall
pub returns-clause-rise : goal.returns-clause-rise
returns-clause-rise c = IsNonDecreasingBy-from_sort_by_key (λ due. due.turn) _ c.sort_unstable_by_key.ensures.sorted (λ a r q k. search rules)
