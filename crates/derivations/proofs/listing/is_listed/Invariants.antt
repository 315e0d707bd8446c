use Rattle.std.proofs.Common.{take}
use Rattle.std.specs.Prelude.{Contains}
use Rattle.derivations.specs.Views.{derivation_of}
use Rattle.derivations.proofs.listing.is_listed.Given as goal

-- none of the tuples so far is this one with this derivation
abbrev pub invariant-loop-one : goal.invariant-loop-one
invariant-loop-one l = Contains (take l.one-index l.found) (record { tuple = l.tuple; by = derivation_of l.deriv }) → ⊥
