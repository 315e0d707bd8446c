use Rattle.std.proofs.Common.{◌≡◌, ◌++◌, drop, map, take}
use Rattle.splitter.specs.Splitting.{with_hop}
use Rattle.splitter.proofs.open.hop_each.Given as goal

-- the lines so far were changed
abbrev pub invariant-loop-place : goal.invariant-loop-place
invariant-loop-place l = l.lines ≡ map (with_hop l.wait) (take l.place l.fn.lines) ++ drop l.place l.fn.lines
