use Rattle.std.proofs.Common.{◌≡◌, ◌+◌, ◌-◌, ◌^◌, ◌<◌, length, take}
use Rattle.epoch_draft.specs.Turns.{HaveTurns}
use Rattle.epoch_draft.proofs.turns.Turns.arrange.Given as goal

-- the streams so far have their turns, and there are turns for the others
abbrev pub invariant-loop-place : goal.invariant-loop-place
invariant-loop-place l = record {
  in_turn : HaveTurns (take l.place l.order) l.self;
  left : l.self.last + (l.end - l.place) < 2 ^ 64;
  as_many : length l.self.given ≡ length l.initial.self.given;
}
