use Rattle.std.proofs.Common.{take}
use Rattle.automaton.specs.Growing.{IsWhole}
use Rattle.automaton.proofs.network.Network.plain.Given as goal

-- the slots are the plain network of the lines so far
abbrev pub invariant-loop-number : goal.invariant-loop-number
invariant-loop-number l = IsWhole (take l.number l.lines) l.slots.items
