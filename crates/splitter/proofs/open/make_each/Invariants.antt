use Rattle.std.proofs.Common.{◌≡◌, ◌++◌, drop, map, take}
use Rattle.automaton.specs.declared.step.Stage.TheVariants.{Make}
use Rattle.splitter.specs.Splitting.{with_stage}
use Rattle.splitter.proofs.open.make_each.Given as goal

-- the lines so far were changed
abbrev pub invariant-loop-place : goal.invariant-loop-place
invariant-loop-place l = l.lines ≡ map (with_stage (Make l.projection)) (take l.place l.fn.lines) ++ drop l.place l.fn.lines
