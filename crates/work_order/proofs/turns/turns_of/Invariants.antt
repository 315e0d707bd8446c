use Rattle.std.proofs.Common.{◌≡◌}
use Rattle.work_order.specs.Turns.{first_turns}
use Rattle.work_order.proofs.turns.turns_of.Given as goal

-- so many turns are there
abbrev pub invariant-loop-own : goal.invariant-loop-own
invariant-loop-own l = l.turns ≡ first_turns l.others l.own
