use Rattle.std.proofs.Common.{◌≡◌, take}
use Rattle.automaton.proofs.layout.copy_kinds.Given as goal

-- the first items were copied
abbrev pub invariant-loop-kind : goal.invariant-loop-kind
invariant-loop-kind l = l.copy ≡ take l.kind-index l.kind-items
