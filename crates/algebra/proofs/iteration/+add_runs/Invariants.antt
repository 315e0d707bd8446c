use Rattle.std.proofs.Common.{◌≡◌, ◌++◌, ◌-◌, take}
use Rattle.std.specs.List.{flat_map}
use Rattle.algebra.proofs.FoldLemmas.{branch}
use Rattle.algebra.proofs.iteration.+add_runs.Given as goal

-- the events that a run may still have
abbrev pub decreases-add_runs : goal.decreases-add_runs
decreases-add_runs g l = l.most

-- the branches of the events so far were added
abbrev pub invariant-loop-event : goal.invariant-loop-event
invariant-loop-event g l = l.out ≡ l.initial.out ++ flat_map (branch (l.most - 1) l.fold.choose.now l.fold.on.now l.fold.projection.now.parts l.fold.tuples.now l.binding) (take l.event-index l.event-items)
