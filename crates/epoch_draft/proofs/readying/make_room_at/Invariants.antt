use Rattle.std.proofs.Common.{take}
use Rattle.epoch_draft.specs.Led.{AreLed}
use Rattle.epoch_draft.proofs.ReadyLemmas.{ReadiedSoFar}
use Rattle.epoch_draft.proofs.readying.make_room_at.Given as goal

-- there is room at the states so far, and keys that are ready lead there
abbrev pub invariant-loop-number : goal.invariant-loop-number
invariant-loop-number l = record {
  readied : ReadiedSoFar (take l.number-index l.numbers) l.beads l.initial.stores l.stores;
  led : AreLed l.network l.keys l.stores;
}
