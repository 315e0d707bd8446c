use Rattle.std.proofs.Common.{◌≡◌, length}
use Rattle.catalogue.specs.Tallies.{StayTallied}
use Rattle.catalogue.proofs.tallying.tally_first.Given as goal

-- zeros are put behind the tallies so far
abbrev pub invariant-loop : goal.invariant-loop
invariant-loop l = (length l.tallies ≡ l.counter) × StayTallied l.initial.tallies l.tallies
