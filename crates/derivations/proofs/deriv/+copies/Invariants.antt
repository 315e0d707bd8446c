use Rattle.std.proofs.Common.{◌≡◌, map, take}
use Rattle.derivations.specs.Views.{derivation_of}
use Rattle.derivations.proofs.deriv.+copies.Given as goal

-- the derivations so far were copied
abbrev pub invariant-copy_all-loop-place : goal.invariant-copy_all-loop-place
invariant-copy_all-loop-place l = map derivation_of l.copies ≡ map derivation_of (take l.place l.derivs)
