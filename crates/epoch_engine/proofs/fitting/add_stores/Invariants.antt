use Rattle.std.proofs.Common.{take}
use Rattle.epoch_engine.proofs.FitLemmas.{GrownSoFar}
use Rattle.epoch_engine.proofs.fitting.add_stores.Given as goal

-- the states so far have their stores
abbrev pub invariant-loop-number : goal.invariant-loop-number
invariant-loop-number l = GrownSoFar l.network (take l.number-index l.came) l.fn.stores l.stores
