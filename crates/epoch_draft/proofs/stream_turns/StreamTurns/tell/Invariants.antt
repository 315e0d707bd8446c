use Rattle.std.proofs.Common.{◌≡◌, take}
use Rattle.epoch_draft.specs.Agenda.{AreTold}
use Rattle.epoch_draft.proofs.stream_turns.StreamTurns.tell.Given as goal

-- the streams of the states so far are told
abbrev pub invariant-loop-state : goal.invariant-loop-state
invariant-loop-state l = AreTold l.network (take l.state-index l.states) l.initial.self.read l.self.read × (l.self.turns ≡ l.initial.self.turns)
