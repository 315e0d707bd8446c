use Rattle.std.proofs.Common.{◌≡◌, ◌-◌, ◌++◌, take, drop}
use Rattle.catalogue.proofs.leaving.add_part.Given as goal

-- the numbers so far are added
abbrev pub invariant-loop-place : goal.invariant-loop-place
invariant-loop-place l = l.part ≡ l.initial.part ++ take (l.place - l.fn.first) (drop l.fn.first l.numbers)
