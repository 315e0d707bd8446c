use Rattle.std.proofs.Common.{◌≡◌, ◌++◌, take}
use Rattle.automaton.proofs.typing.add_kinds.Given as goal

-- the kinds so far were added
abbrev pub invariant-loop-kind : goal.invariant-loop-kind
invariant-loop-kind l = l.kinds ≡ l.initial.kinds ++ take l.kind-index l.kind-items
