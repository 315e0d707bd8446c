use Rattle.std.proofs.Common.{◌≡◌, take}
use Rattle.std.specs.Prelude.{count_by, is_some}
use Rattle.automaton.specs.States.{root_in}
use Rattle.session.proofs.counting.root_states.Given as goal

-- the root states below a number
abbrev pub invariant-loop-number : goal.invariant-loop-number
invariant-loop-number l = l.count ≡ count_by (λ slot. is_some (root_in slot)) (take l.number l.network)
