use Rattle.std.proofs.Common.{◌≡◌, ◌++◌, length, map}
use Rattle.std.specs.List.{All}
use Rattle.derivations.specs.DerivedTuples.{derived_fold, derived_runs}
use Rattle.derivations.specs.Folds.{IsSuited, runs_left}
use Rattle.derivations.proofs.iteration.add_runs_of.Given as goal

-- with the runs of the iterations that are left, what was added is all
abbrev pub invariant-loop-going : goal.invariant-loop-going
invariant-loop-going g l =
    (l.out ++ map (derived_fold l.binding.by) (runs_left l.fold.choose.now l.fold.on.now l.fold.projection.now.parts l.fold.found l.left)
    ≡ l.initial.out ++ derived_runs l.fold.choose.now l.fold.on.now l.fold.projection.now.parts l.fold.found l.binding)
    × All (IsSuited l.fold.choose.now l.fold.on.now l.fold.projection.now.parts l.fold.found) l.left

-- each turn adds one of the runs
abbrev pub decreases-loop-going : goal.decreases-loop-going
decreases-loop-going g l = length (runs_left l.fold.choose.now l.fold.on.now l.fold.projection.now.parts l.fold.found l.left)
