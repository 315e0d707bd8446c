use Rattle.std.proofs.Common.{◌+◌, ◌≤◌, take}
use Rattle.std.specs.List.{flat_map}
use Rattle.stream_readers.specs.Targets.{way_of}
use Rattle.epoch_laws.specs.Instances.{begins}
use Rattle.epoch_draft.specs.Drafts.{Grows}
use Rattle.epoch_draft.specs.Made.{IsLastIn}
use Rattle.epoch_draft.specs.Moves.{moves_on}
use Rattle.epoch_draft.specs.Work.{ways_work}
use Rattle.epoch_draft.proofs.meeting.go_each.Given as goal

-- the tuple went to the targets so far
abbrev pub invariant-loop-target : goal.invariant-loop-target
invariant-loop-target g l = record {
  grows : Grows l.network (moves_on (flat_map (way_of l.network) (take l.target-index l.targets)) (begins l.tuple)) l.initial.draft l.draft;
  last : IsLastIn l.draft.made l.tuple l.last;
  ticks : l.steps ≤ l.initial.steps + ways_work l.network (flat_map (way_of l.network) (take l.target-index l.targets));
}
