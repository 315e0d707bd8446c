use Rattle.std.proofs.Common.{◌≡◌, ◌++◌, take, map}
use Rattle.semantics.specs.Denotation.{selected}
use Rattle.algebra.proofs.evaluation.add_selected.Given as goal

-- each of the tuples so far was added with the projection's values
abbrev pub invariant-loop-tuple : goal.invariant-loop-tuple
invariant-loop-tuple l = l.out ≡ l.initial.out ++ map (selected l.projection.parts) (take l.tuple-index l.tuples)
