use Rattle.std.proofs.Common.{take}
use Rattle.epoch_draft.proofs.ClearLemmas.{Cleared}
use Rattle.epoch_draft.proofs.draft.clear_chains.Given as goal

-- the chains so far are empty
abbrev pub invariant-loop-number : goal.invariant-loop-number
invariant-loop-number l = Cleared (take l.number-index l.numbers) l.initial.chains l.chains
