use Rattle.std.proofs.Common.{◌≡◌, ◌++◌, take}
use Rattle.std.specs.List.{flat_map}
use Rattle.derivations.specs.DerivedTuples.{derived_runs}
use Rattle.derivations.proofs.iteration.add_all_runs.Given as goal

-- the runs from the bindings so far were added
abbrev pub invariant-loop-binding : goal.invariant-loop-binding
invariant-loop-binding g l = l.out ≡ l.initial.out ++ flat_map (derived_runs l.fold.choose.now l.fold.on.now l.fold.projection.now.parts l.fold.found) (take l.binding-index l.bindings)
