use Rattle.std.proofs.Common.{◌≡◌, ◌++◌, take, map}
use Rattle.derivations.specs.Derivation.{Left}
use Rattle.derivations.specs.DerivedTuples.{going_on}
use Rattle.derivations.proofs.denoting.add_lefts.Given as goal

-- the tuples so far were added
abbrev pub invariant-loop-one : goal.invariant-loop-one
invariant-loop-one l = l.out ≡ l.initial.out ++ map (going_on Left) (take l.one-index l.found)
