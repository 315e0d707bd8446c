use Rattle.std.proofs.Common.{◌≡◌, ◌++◌, take}
use Rattle.epoch_draft.proofs.spare.add_copies.Given as goal

-- the values so far were added
abbrev pub invariant-loop-value : goal.invariant-loop-value
invariant-loop-value l = l.vals ≡ l.initial.vals ++ take l.value-index l.more
