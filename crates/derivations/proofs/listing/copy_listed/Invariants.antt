use Rattle.std.proofs.Common.{◌≡◌, take}
use Rattle.derivations.proofs.listing.copy_listed.Given as goal

-- the tuples so far were copied
abbrev pub invariant-loop-one : goal.invariant-loop-one
invariant-loop-one l = l.copies ≡ take l.one-index l.found
