use Rattle.std.proofs.Common.{◌≡◌, ◌+◌, ◌≤◌, take}
use Rattle.epoch_draft.specs.Tests.{stream_work}
use Rattle.epoch_draft.specs.Drafts.{Grows}
use Rattle.epoch_draft.specs.Held.{held}
use Rattle.epoch_draft.specs.Meeting.{ListsAll, moves_of_all}
use Rattle.epoch_draft.proofs.meeting.meet_stream.Given as goal

-- the tuples so far are met and listed
abbrev pub invariant-loop-place : goal.invariant-loop-place
invariant-loop-place g l = record {
  grows : Grows l.stored.network.now (moves_of_all l.stored.network.now (held l.stored.stores.now) l.stream (take l.place l.tuples)) l.initial.drawing.draft l.drawing.draft;
  lists : ListsAll l.stored.network.now (held l.stored.stores.now) l.stream (take l.place l.tuples) l.initial.drawing.pairs l.drawing.pairs;
  agenda : l.drawing.agenda.entries ≡ l.initial.drawing.agenda.entries;
  ticks : l.steps ≤ l.initial.steps + stream_work l.stored.network.now (held l.stored.stores.now) l.stream (take l.place l.tuples);
}
