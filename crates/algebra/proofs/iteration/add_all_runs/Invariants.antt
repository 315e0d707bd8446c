use Rattle.std.proofs.Common.{◌≡◌, ◌++◌, take}
use Rattle.std.specs.List.{flat_map}
use Rattle.semantics.specs.Runs.{runs}
use Rattle.algebra.proofs.iteration.add_all_runs.Given as goal

-- the runs from the bindings so far were added
abbrev pub invariant-loop-binding : goal.invariant-loop-binding
invariant-loop-binding g l = l.out ≡ l.initial.out ++ flat_map (runs l.fold.choose.now l.fold.on.now l.fold.projection.now.parts l.fold.tuples.now) (take l.binding-index l.bindings)
