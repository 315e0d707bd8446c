use Rattle.std.proofs.Common.{◌≡◌, ◌++◌, ◌<◌, ◌-◌, length}
use Rattle.std.specs.List.{All}
use Rattle.algebra.proofs.FoldLemmas.{SuitsBranch}
use Rattle.derivations.specs.DerivedTuples.{DerivedTuple, tuples_in}
use Rattle.derivations.specs.Folds.{IsSuited, runs_behind, runs_left}
use Rattle.derivations.proofs.FoldLemmas.{branches}
use Rattle.derivations.proofs.iteration.add_branches.Given as goal

-- the runs are those of the events to come and of the iterations that are left, and all of these are suited
abbrev pub invariant-loop-event : goal.invariant-loop-event
invariant-loop-event g l =
    (branches l.fold.choose.now l.fold.on.now l.fold.projection.now.parts l.fold.found l.going l.goers ++ runs_left l.fold.choose.now l.fold.on.now l.fold.projection.now.parts l.fold.found l.left
    ≡ runs_behind l.fold.choose.now l.fold.on.now l.fold.projection.now.parts l.fold.found l.going ++ runs_left l.fold.choose.now l.fold.on.now l.fold.projection.now.parts l.fold.found l.initial.left)
    × All (λ (x : DerivedTuple). l.going.binding.at < x.tuple.from) l.goers
    × All (λ (x : DerivedTuple). SuitsBranch (l.going.most - 1) l.fold.choose.now l.fold.on.now l.fold.projection.now.parts (tuples_in l.fold.found) l.going.binding x.tuple) l.goers
    × All (IsSuited l.fold.choose.now l.fold.on.now l.fold.projection.now.parts l.fold.found) l.left

abbrev pub decreases-loop-event : goal.decreases-loop-event
decreases-loop-event g l = length l.goers
