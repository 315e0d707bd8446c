use Rattle.std.proofs.Common.{◌≡◌, ◌-◌, ◌^◌, ◌++◌, replicate, take}
use Rattle.deadlines.proofs.deadlines.Deadlines.grow.Given as goal

abbrev pub invariant-loop-place : goal.invariant-loop-place
invariant-loop-place l = l.grown ≡ take l.place l.fn.self ++ replicate (l.places - l.place) (2 ^ 128 - 1)
