use Rattle.std.proofs.Common.{◌≡◌, take}
use Rattle.std.specs.Prelude.{Some}
use Rattle.std.specs.List.{filter}
use Rattle.semantics.specs.Truth.{all_true}
use Rattle.derivations.specs.DerivedTuples.{DerivedTuple}
use Rattle.derivations.proofs.iteration.passing.Given as goal

-- what was found is those of the tuples so far for which the condition holds with the binding
abbrev pub invariant-loop-next : goal.invariant-loop-next
invariant-loop-next g l = l.found ≡ filter (λ (x : DerivedTuple). all_true l.condition x.tuple (Some l.binding)) (take l.next-index l.nexts)
