use Rattle.std.proofs.Common.{◌≡◌}
use Rattle.std.specs.List.{range_with_len}
use Rattle.catalogue.proofs.growing.numbers_from.Given as goal

-- the numbers so far are there
abbrev pub invariant-loop-number : goal.invariant-loop-number
invariant-loop-number l = l.numbers ≡ range_with_len l.fn.first l.number
