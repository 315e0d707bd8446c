use Rattle.std.proofs.Common.{take}
use Rattle.std.specs.Prelude.{Contains}
use Rattle.std.specs.List.{All}
use Rattle.epoch_draft.specs.Agenda.{AreBehind, IsPlannedIn}
use Rattle.epoch_draft.proofs.agenda.plan_each.Given as goal

-- the streams so far are planned
abbrev pub invariant-loop-stream : goal.invariant-loop-stream
invariant-loop-stream l = record {
  behind : AreBehind l.stored.layout.now.order l.stored.turns.now.turns l.last l.agenda.entries;
  kept : All (Contains l.agenda.entries) l.initial.agenda.entries;
  planned : All (IsPlannedIn l.stored.turns.now l.last l.agenda.entries) (take l.stream-index l.due);
}
