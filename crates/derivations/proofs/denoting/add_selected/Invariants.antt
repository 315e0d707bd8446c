use Rattle.std.proofs.Common.{◌≡◌, ◌++◌, take, map}
use Rattle.derivations.specs.DerivedTuples.{derived_selected}
use Rattle.derivations.proofs.denoting.add_selected.Given as goal

-- each of the tuples so far was added with the projection's values
abbrev pub invariant-loop-one : goal.invariant-loop-one
invariant-loop-one l = l.out ≡ l.initial.out ++ map (derived_selected l.projection.parts) (take l.one-index l.found)
