use Rattle.std.proofs.Common.{◌≡◌, take}
use Rattle.std.specs.List.{filter}
use Rattle.semantics.specs.Nexts.{is_earliest}
use Rattle.algebra.proofs.matching.first_of.Given as goal

-- what was found is the earliest ones of the tuples so far
abbrev pub invariant-loop-tuple : goal.invariant-loop-tuple
invariant-loop-tuple l = l.found ≡ filter (is_earliest l.tuples) (take l.tuple-index l.tuples)
