use Rattle.std.proofs.Common.{◌≡◌, take}
use Rattle.derivations.proofs.side.side_of.Given as goal

-- the tuples so far stand there
abbrev pub invariant-loop-one : goal.invariant-loop-one
invariant-loop-one l = l.side ≡ take l.one-index l.found
