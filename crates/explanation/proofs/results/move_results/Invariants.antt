use Rattle.std.proofs.Common.{◌++◌, length, map}
use Rattle.std.specs.List.Sorted.{IsPermutation}
use Rattle.explanation.specs.Explained.{result_of}
use Rattle.explanation.proofs.results.move_results.Given as goal

-- what was moved and what is left are all
abbrev pub invariant-tuples : goal.invariant-tuples
invariant-tuples l = IsPermutation (map (result_of l.query) l.initial.found ++ l.initial.results) (map (result_of l.query) l.found ++ l.results)

abbrev pub decreases-tuples : goal.decreases-tuples
decreases-tuples l = length l.found
