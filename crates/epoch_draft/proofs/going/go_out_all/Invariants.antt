use Rattle.std.proofs.Common.{◌+◌, ◌≤◌, map, take}
use Rattle.stream_readers.specs.Ways.{Out}
use Rattle.epoch_draft.specs.Drafts.{Grows}
use Rattle.epoch_draft.specs.Made.{IsLastIn}
use Rattle.epoch_draft.specs.Moves.{moves_on}
use Rattle.epoch_draft.specs.Work.{ways_work}
use Rattle.epoch_draft.proofs.going.go_out_all.Given as goal

-- the instance went out by the ends so far
abbrev pub invariant-loop-end : goal.invariant-loop-end
invariant-loop-end g l = record {
  grows : Grows l.network (moves_on (map Out (take l.end-index l.ends)) l.instance) l.initial.draft l.draft;
  last : IsLastIn l.draft.made l.instance.tuple l.last;
  ticks : l.steps ≤ l.initial.steps + ways_work l.network (map Out (take l.end-index l.ends));
}
