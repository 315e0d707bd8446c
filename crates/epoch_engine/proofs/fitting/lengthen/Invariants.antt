use Rattle.std.proofs.Common.{◌-◌, length}
use Rattle.epoch_engine.specs.Fitting.{IsPadded}
use Rattle.epoch_engine.proofs.fitting.lengthen.Given as goal

abbrev pub invariant-loop-stores : goal.invariant-loop-stores
invariant-loop-stores l = IsPadded l.places l.initial.stores l.stores

abbrev pub decreases-loop-stores : goal.decreases-loop-stores
decreases-loop-stores l = l.places - length l.stores
