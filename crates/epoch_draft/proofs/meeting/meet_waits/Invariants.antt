use Rattle.std.proofs.Common.{◌≡◌, ◌+◌, ◌≤◌, ◌++◌, map, take}
use Rattle.std.specs.Prelude.{sum_by}
use Rattle.epoch_draft.specs.Work.{state_work}
use Rattle.epoch_draft.specs.Drafts.{Grows}
use Rattle.epoch_draft.specs.Held.{held}
use Rattle.epoch_draft.specs.Meeting.{moves_met, pair_of}
use Rattle.epoch_draft.proofs.meeting.meet_waits.Given as goal

-- the states so far are met and listed
abbrev pub invariant-loop-index : goal.invariant-loop-index
invariant-loop-index g l = record {
  grows : Grows l.stored.network.now (moves_met l.stored.network.now (held l.stored.stores.now) l.tuple (take l.index l.initial.drawing.found.waits)) l.initial.drawing.draft l.drawing.draft;
  pairs : l.drawing.pairs ≡ l.initial.drawing.pairs ++ map (pair_of l.stream l.place) (take l.index l.initial.drawing.found.waits);
  waits : l.drawing.found.waits ≡ l.initial.drawing.found.waits;
  agenda : l.drawing.agenda.entries ≡ l.initial.drawing.agenda.entries;
  ticks : l.steps ≤ l.initial.steps + sum_by (state_work l.stored.network.now (held l.stored.stores.now) l.tuple) (take l.index l.initial.drawing.found.waits);
}
