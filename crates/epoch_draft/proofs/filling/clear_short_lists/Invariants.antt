use Rattle.std.proofs.Common.{take}
use Rattle.epoch_draft.proofs.ClearLemmas.{Cleared}
use Rattle.epoch_draft.proofs.filling.clear_short_lists.Given as goal

-- the lists so far are empty
abbrev pub invariant-loop-number : goal.invariant-loop-number
invariant-loop-number l = Cleared (take l.number-index l.numbers) l.initial.lists l.lists
