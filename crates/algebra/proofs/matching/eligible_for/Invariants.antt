use Rattle.std.proofs.Common.{◌≡◌, take}
use Rattle.std.specs.List.{filter}
use Rattle.semantics.specs.Nexts.{is_eligible}
use Rattle.algebra.proofs.matching.eligible_for.Given as goal

-- what was found is the eligible ones of the tuples so far
abbrev pub invariant-loop-tuple : goal.invariant-loop-tuple
invariant-loop-tuple g l = l.found ≡ filter (is_eligible l.condition l.binding) (take l.tuple-index l.tuples)
