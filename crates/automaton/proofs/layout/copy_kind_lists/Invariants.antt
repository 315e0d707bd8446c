use Rattle.std.proofs.Common.{◌≡◌, take}
use Rattle.automaton.proofs.layout.copy_kind_lists.Given as goal

-- the first items were copied
abbrev pub invariant-loop-kinds : goal.invariant-loop-kinds
invariant-loop-kinds l = l.copy ≡ take l.kinds-index l.lists
