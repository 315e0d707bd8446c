use Rattle.std.proofs.Common.{◌≡◌, ◌++◌, ◌≤◌, ◌-◌, None, length, take, drop}
use Rattle.static_index.specs.Table.{meets}
use Rattle.static_index.proofs.NarrowLemmas.{passing_after}
use Rattle.static_index.proofs.narrowing.narrow.Given as goal

abbrev pub invariant-places : goal.invariant-places
invariant-places l = record {
  whole : take l.kept l.found ++ passing_after (meets l.entries l.asked l.event) l.last (drop l.place l.found) ≡ passing_after (meets l.entries l.asked l.event) None l.initial.found;
  behind : l.kept ≤ l.place;
}

abbrev pub decreases-places : goal.decreases-places
decreases-places l = length l.found - l.place
