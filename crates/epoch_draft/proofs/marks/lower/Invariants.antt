use Rattle.std.proofs.Common.{take}
use Rattle.epoch_draft.specs.Marks.{AreLowered}
use Rattle.epoch_draft.proofs.marks.lower.Given as goal

-- the flags so far are down
abbrev pub invariant-loop-number : goal.invariant-loop-number
invariant-loop-number l = AreLowered (take l.number-index l.numbers) l.initial.flags l.flags
