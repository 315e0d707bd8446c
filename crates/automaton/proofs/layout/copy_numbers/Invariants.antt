use Rattle.std.proofs.Common.{◌≡◌, take}
use Rattle.automaton.proofs.layout.copy_numbers.Given as goal

-- the first items were copied
abbrev pub invariant-loop-number : goal.invariant-loop-number
invariant-loop-number l = l.copy ≡ take l.number-index l.numbers
