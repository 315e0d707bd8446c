use Rattle.std.proofs.Common.{◌≡◌, ◌++◌, take, map}
use Rattle.semantics.specs.Denotation.{joined}
use Rattle.algebra.proofs.matching.add_joined.Given as goal

-- the binding was added, joined with each of the tuples so far
abbrev pub invariant-loop-tuple : goal.invariant-loop-tuple
invariant-loop-tuple l = l.out ≡ l.initial.out ++ map (joined l.binding) (take l.tuple-index l.tuples)
