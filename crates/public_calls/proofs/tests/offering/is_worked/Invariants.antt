use Rattle.std.proofs.Common.{◌≡◌, false, take}
use Rattle.automaton.specs.Work.{is_in}
use Rattle.public_calls.proofs.tests.offering.is_worked.Given as goal

-- none of the streams so far is the one
abbrev pub invariant-loop-place : goal.invariant-loop-place
invariant-loop-place l = is_in (take l.place l.order) l.stream ≡ false
