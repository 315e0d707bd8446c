use Rattle.std.proofs.Common.{◌≡◌, take}
use Rattle.automaton.proofs.equality.is_same_step.Given as goal

-- the stages so far are the same
abbrev pub invariant-loop-place : goal.invariant-loop-place
invariant-loop-place l = take l.place l.step ≡ take l.place l.other
