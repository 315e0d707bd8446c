use Rattle.std.proofs.Common.{◌+◌, ◌≤◌, map, take}
use Rattle.stream_readers.specs.Ways.{Into}
use Rattle.epoch_draft.specs.Drafts.{Grows}
use Rattle.epoch_draft.specs.Moves.{moves_on}
use Rattle.epoch_draft.specs.Work.{ways_work}
use Rattle.epoch_draft.proofs.going.go_into_all.Given as goal

-- the instance went into the states so far
abbrev pub invariant-loop-state : goal.invariant-loop-state
invariant-loop-state g l = record {
  grows : Grows l.network (moves_on (map Into (take l.state-index l.states)) l.instance) l.initial.draft l.draft;
  ticks : l.steps ≤ l.initial.steps + ways_work l.network (map Into (take l.state-index l.states));
}
