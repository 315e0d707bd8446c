use Rattle.std.proofs.Common.{◌+◌}
use Rattle.epoch_draft.proofs.PurgeLemmas.{ArePurgedBelow}
use Rattle.epoch_draft.proofs.purging.purge_all.Given as goal

-- the stores of the states so far are purged
abbrev pub invariant-loop-number : goal.invariant-loop-number
invariant-loop-number l = ArePurgedBelow l.network l.number (l.time + 1) l.initial.stores l.stores
