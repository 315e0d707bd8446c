use Rattle.std.proofs.Common.{◌≡◌, ◌++◌, take, map}
use Rattle.derivations.specs.DerivedTuples.{as_read}
use Rattle.derivations.proofs.reading.add_read.Given as goal

-- the tuples so far were added as they are read
abbrev pub invariant-loop-one : goal.invariant-loop-one
invariant-loop-one l = l.out ≡ l.initial.out ++ map (as_read l.is_declared) (take l.one-index l.found)
