use Rattle.std.proofs.Common.{◌+◌, ◌≤◌, length}
use Rattle.std.specs.Prelude.{IsTrue, sum_by}
use Rattle.epoch_draft.specs.Work.{binding_work}
use Rattle.std.specs.List.{All}
use Rattle.instances.specs.Keys.{key_matches, key_of_places}
use Rattle.instances.specs.declared.instance.Instance.{Instance}
use Rattle.epoch_draft.specs.Moves.{moves_from}
use Rattle.epoch_draft.specs.Pairs.{met}
use Rattle.epoch_draft.specs.Suits.{LeavingSuits, WaitSuits}
use Rattle.epoch_draft.proofs.MeetLemmas.{Follows}
use Rattle.epoch_draft.proofs.matching.meet_instances.Given as goal

-- what the tuple makes of the instances that are left is still to leave
abbrev pub invariant-loop-instance : goal.invariant-loop-instance
invariant-loop-instance g l = record {
  suits : All (λ (i : Instance). WaitSuits l.waiting.wait.now i.tuple l.tuple) l.instances;
  found : All (λ (i : Instance). IsTrue (key_matches (key_of_places l.key) l.tuple i.tuple)) l.instances;
  leaving : All (λ (made : Instance). LeavingSuits l.waiting.network.now l.waiting.state made.tuple) (met l.waiting.wait.now l.instances l.tuple);
  follows : Follows l.waiting.network.now (moves_from l.waiting.network.now l.waiting.state (met l.waiting.wait.now l.instances l.tuple)) (moves_from l.waiting.network.now l.waiting.state (met l.waiting.wait.now l.initial.instances l.tuple)) l.initial.draft l.draft;
  ticks : l.steps + sum_by (binding_work l.waiting.network.now l.waiting.state l.waiting.wait.now l.tuple) l.instances ≤ l.initial.steps + sum_by (binding_work l.waiting.network.now l.waiting.state l.waiting.wait.now l.tuple) l.initial.instances;
}

abbrev pub decreases-loop-instance : goal.decreases-loop-instance
decreases-loop-instance g l = length l.instances
