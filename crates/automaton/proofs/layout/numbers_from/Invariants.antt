use Rattle.std.proofs.Common.{◌≡◌, ◌-◌, take, drop}
use Rattle.automaton.proofs.layout.numbers_from.Given as goal

-- the first items from the place on were copied
abbrev pub invariant-loop-place : goal.invariant-loop-place
invariant-loop-place l = l.copy ≡ take (l.place - l.fn.first) (drop l.fn.first l.numbers)
