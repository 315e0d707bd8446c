use Rattle.std.proofs.Common.{◌≡◌, take}
use Rattle.std.specs.List.{sum}
use Rattle.long_lists.proofs.long_sums.sum_of_first.Given as goal

-- the sum so far
abbrev pub invariant-loop-number : goal.invariant-loop-number
invariant-loop-number l = l.sum ≡ sum (take l.number-index l.number-items)
