use Rattle.std.proofs.Common.{take}
use Rattle.epoch_draft.specs.Watching.{Watches}
use Rattle.epoch_draft.proofs.SettleLemmas.{LinkedSoFar}
use Rattle.epoch_draft.proofs.settling.link_all.Given as goal

-- the beads of the states so far are linked, those of the others are as they were, and the deadlines are lowered
abbrev pub invariant-loop-number : goal.invariant-loop-number
invariant-loop-number l = record {
  linked : LinkedSoFar (take l.number-index l.numbers) l.initial.beads l.beads l.initial.stores l.stores;
  watches : Watches l.deadlines l.stores;
}
