use Rattle.std.proofs.Common.{take}
use Rattle.catalogue.specs.Tallies.{AreTallied}
use Rattle.catalogue.proofs.tallying.tally_all.Given as goal

-- the reads of the expressions so far are tallied
abbrev pub invariant-loop-place : goal.invariant-loop-place
invariant-loop-place l = AreTallied (take l.place l.expressions) l.tallies
