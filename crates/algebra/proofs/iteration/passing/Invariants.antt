use Rattle.std.proofs.Common.{◌≡◌, take}
use Rattle.std.specs.Prelude.{Some}
use Rattle.std.specs.List.{filter}
use Rattle.event_types.specs.Tuple.{TupleView}
use Rattle.semantics.specs.Truth.{all_true}
use Rattle.algebra.proofs.iteration.passing.Given as goal

-- what was found is those of the tuples so far for which the condition holds with the binding
abbrev pub invariant-loop-tuple : goal.invariant-loop-tuple
invariant-loop-tuple g l = l.found ≡ filter (λ (t : TupleView). all_true l.condition t (Some l.binding)) (take l.tuple-index l.tuples)
