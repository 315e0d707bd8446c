use Rattle.std.proofs.Common.{◌+◌, nat_le}
use Rattle.std.specs.List.{count_by}
use Rattle.epoch_draft.proofs.WatchLemmas.{ArePurgedSome}
use Rattle.epoch_draft.proofs.watching.purge_due.Given as goal

-- some stores are purged
abbrev pub invariant-loop-number : goal.invariant-loop-number
invariant-loop-number l = ArePurgedSome (l.time + 1) l.deadlines l.initial.stores l.stores

abbrev pub decreases-loop-number : goal.decreases-loop-number
decreases-loop-number l = count_by (λ deadline. nat_le deadline (l.time + 1)) l.deadlines
