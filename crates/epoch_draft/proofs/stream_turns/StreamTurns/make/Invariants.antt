use Rattle.std.proofs.Common.{◌≤◌, length}
use Rattle.epoch_draft.specs.Turns.{HaveTurns}
use Rattle.epoch_draft.proofs.ToldLemmas.{AreReadBelow}
use Rattle.epoch_draft.proofs.stream_turns.StreamTurns.make.Given as goal

-- the streams have their turns, and those of the states so far are told
abbrev pub invariant-loop-state : goal.invariant-loop-state
invariant-loop-state l = record {
  many_turns : l.streams ≤ length l.turns.turns.given;
  many_read : l.streams ≤ length l.turns.read;
  in_turn : HaveTurns l.order l.turns.turns;
  read : AreReadBelow l.network l.state l.turns.read;
}
