use Rattle.std.proofs.Common.{◌≡◌, drop, map}
use Rattle.scalar_expr.specs.Views.{sc_of}
use Rattle.splitter.specs.Stages.{are_events}
use Rattle.splitter.proofs.stages.are_in_turn.Given as goal

-- what is left are the scalars from here on
abbrev pub invariant-loop-place : goal.invariant-loop-place
invariant-loop-place l = are_events 0 (map sc_of l.scalars) ≡ are_events l.place (map sc_of (drop l.place l.scalars))
