use Rattle.std.proofs.Common.{◌≤◌, ◌-◌, length}
use Rattle.epoch_draft.specs.Filling.{IsLengthened}
use Rattle.epoch_draft.proofs.filling.lengthen.Given as goal

-- so far the item was put at the end
abbrev pub invariant-loop-item : goal.invariant-loop-item
invariant-loop-item g l = IsLengthened l.item l.initial.list l.list × (length l.initial.list ≤ l.count → length l.list ≤ l.count)

abbrev pub decreases-loop-item : goal.decreases-loop-item
decreases-loop-item g l = l.count - length l.list
