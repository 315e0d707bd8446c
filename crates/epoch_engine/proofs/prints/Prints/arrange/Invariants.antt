use Rattle.std.proofs.Common.{◌≡◌, ◌+◌, ◌^◌, ◌<◌, length, take}
use Rattle.std.specs.Prelude.{IsTrue}
use Rattle.epoch_draft.specs.Turns.{HaveTurns}
use Rattle.epoch_engine.specs.Prints.{OthersHaveNone}
use Rattle.epoch_engine.proofs.prints.Prints.arrange.Given as goal

-- the streams so far have their turns, if each is printed once, and there are turns for the others
abbrev pub invariant-loop-place : goal.invariant-loop-place
invariant-loop-place l = record {
  told : IsTrue l.self.are_once → HaveTurns (take l.place l.outs) l.self.turns;
  others : OthersHaveNone (take l.place l.outs) l.self.turns;
  left : l.self.turns.last + length l.outs < 2 ^ 64 + l.place;
  as_many : length l.self.turns.given ≡ length l.initial.self.turns.given;
}
