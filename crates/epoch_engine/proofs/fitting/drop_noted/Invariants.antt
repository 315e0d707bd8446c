use Rattle.std.proofs.Common.{take}
use Rattle.epoch_engine.proofs.FitLemmas.{LeftOf}
use Rattle.epoch_engine.proofs.fitting.drop_noted.Given as goal

-- of the numbers so far those of waiting states have their stores
abbrev pub invariant-loop-number : goal.invariant-loop-number
invariant-loop-number l = LeftOf l.network (take l.number-index l.noted) l.fn.stores l.stores
