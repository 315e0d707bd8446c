use Rattle.std.proofs.Common.{◌≤◌, ◌-◌, length, []}
use Rattle.epoch_draft.specs.Filling.{IsLengthened}
use Rattle.epoch_draft.proofs.filling.lengthen_short_lists.Given as goal

-- so far empty lists were put at the end
abbrev pub invariant-loop-alloc : goal.invariant-loop-alloc
invariant-loop-alloc l = IsLengthened [] l.initial.lists l.lists × (length l.initial.lists ≤ l.count → length l.lists ≤ l.count)

abbrev pub decreases-loop-alloc : goal.decreases-loop-alloc
decreases-loop-alloc l = l.count - length l.lists
