use Rattle.std.proofs.Common.{◌≡◌, ◌++◌, take, map}
use Rattle.derivations.specs.DerivedTuples.{derived_join}
use Rattle.derivations.proofs.matching.add_joined.Given as goal

-- the binding was added, joined with each of the tuples so far
abbrev pub invariant-loop-next : goal.invariant-loop-next
invariant-loop-next l = l.out ≡ l.initial.out ++ map (derived_join l.binding) (take l.next-index l.nexts)
