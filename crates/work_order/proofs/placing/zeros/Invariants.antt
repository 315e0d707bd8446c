use Rattle.std.proofs.Common.{◌≡◌, length}
use Rattle.work_order.proofs.placing.zeros.Given as goal

-- so many zeros are there
abbrev pub invariant-loop : goal.invariant-loop
invariant-loop l = length l.numbers ≡ l.counter
