use Rattle.std.proofs.Common.{◌≡◌, drop, length}
use Rattle.epoch_engine.specs.Prints.{OthersHaveNone}
use Rattle.epoch_engine.proofs.prints.Prints.forget.Given as goal

-- the streams so far have no turn
abbrev pub invariant-loop-place : goal.invariant-loop-place
invariant-loop-place l = record {
  others : OthersHaveNone (drop l.place l.outs) l.self.turns;
  last : l.self.turns.last ≡ l.initial.self.turns.last;
  as_many : length l.self.turns.given ≡ length l.initial.self.turns.given;
}
