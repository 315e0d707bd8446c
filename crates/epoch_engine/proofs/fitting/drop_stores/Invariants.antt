use Rattle.epoch_engine.proofs.FitLemmas.{LeftSoFar}
use Rattle.epoch_engine.proofs.fitting.drop_stores.Given as goal

-- of the numbers before this one those of waiting states have their stores
abbrev pub invariant-loop-number : goal.invariant-loop-number
invariant-loop-number l = LeftSoFar l.network l.number l.fn.stores l.stores
