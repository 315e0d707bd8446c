use Rattle.std.proofs.Common.{◌≡◌, length, take}
use Rattle.derivations.specs.Parted.{AreParted}
use Rattle.derivations.proofs.sides.parted.Given as goal

-- the tuples so far stand by key
abbrev pub invariant-loop-one : goal.invariant-loop-one
invariant-loop-one l = (length l.sides ≡ length l.keys.keys) × AreParted l.event l.keys.keys l.sides (take l.one-index l.found)
