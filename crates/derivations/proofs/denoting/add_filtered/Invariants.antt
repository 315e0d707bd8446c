use Rattle.std.proofs.Common.{◌≡◌, ◌++◌, take}
use Rattle.std.specs.Prelude.{None}
use Rattle.std.specs.List.{filter}
use Rattle.semantics.specs.Truth.{all_true}
use Rattle.derivations.specs.DerivedTuples.{DerivedTuple}
use Rattle.derivations.proofs.denoting.add_filtered.Given as goal

-- those of the tuples so far for which the condition holds were added
abbrev pub invariant-loop-one : goal.invariant-loop-one
invariant-loop-one g l = l.out ≡ l.initial.out ++ filter (λ (x : DerivedTuple). all_true l.condition x.tuple None) (take l.one-index l.found)
