use Rattle.std.proofs.Common.{◌≡◌, ◌++◌, take}
use Rattle.algebra.proofs.evaluation.add_copies.Given as goal

-- the tuples so far were added
abbrev pub invariant-loop-tuple : goal.invariant-loop-tuple
invariant-loop-tuple l = l.out ≡ l.initial.out ++ take l.tuple-index l.tuples
