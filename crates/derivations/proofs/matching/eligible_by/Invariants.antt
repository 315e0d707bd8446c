use Rattle.std.proofs.Common.{◌≡◌, ◌&&◌, nat_le, take}
use Rattle.std.specs.List.{filter}
use Rattle.semantics.specs.Nexts.{is_eligible}
use Rattle.derivations.specs.DerivedTuples.{DerivedTuple}
use Rattle.derivations.proofs.matching.eligible_by.Given as goal

-- what was found is those of the tuples so far that are eligible and detected by the time
abbrev pub invariant-loop-place : goal.invariant-loop-place
invariant-loop-place g l = l.nexts ≡ filter (λ (x : DerivedTuple). is_eligible l.condition l.binding x.tuple && nat_le x.tuple.at l.time) (take l.place l.found)
