use Rattle.std.proofs.Common.{◌++◌, length}
use Rattle.std.specs.List.Sorted.{IsPermutation}
use Rattle.explanation.specs.Explained.{results_from}
use Rattle.explanation.proofs.results.in_order.Given as goal

-- what was moved and what is left are all
abbrev pub invariant-queries : goal.invariant-queries
invariant-queries l = IsPermutation (results_from 0 l.initial.table) (results_from 0 l.table ++ l.results)

abbrev pub decreases-queries : goal.decreases-queries
decreases-queries l = length l.table
