use Rattle.std.proofs.Common.{◌≡◌, ◌++◌, take}
use Rattle.std.specs.Prelude.{None}
use Rattle.std.specs.List.{filter}
use Rattle.event_types.specs.Tuple.{TupleView}
use Rattle.semantics.specs.Truth.{all_true}
use Rattle.algebra.proofs.evaluation.add_filtered.Given as goal

-- those of the tuples so far for which the condition holds were added
abbrev pub invariant-loop-tuple : goal.invariant-loop-tuple
invariant-loop-tuple g l = l.out ≡ l.initial.out ++ filter (λ (t : TupleView). all_true l.condition t None) (take l.tuple-index l.tuples)
