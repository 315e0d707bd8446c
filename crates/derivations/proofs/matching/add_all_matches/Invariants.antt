use Rattle.std.proofs.Common.{◌≡◌, ◌++◌, take}
use Rattle.std.specs.List.{flat_map}
use Rattle.derivations.specs.DerivedTuples.{derived_matches}
use Rattle.derivations.proofs.matching.add_all_matches.Given as goal

-- the matches of the bindings so far were added
abbrev pub invariant-loop-binding : goal.invariant-loop-binding
invariant-loop-binding g l = l.out ≡ l.initial.out ++ flat_map (derived_matches l.condition l.found) (take l.binding-index l.bindings)
