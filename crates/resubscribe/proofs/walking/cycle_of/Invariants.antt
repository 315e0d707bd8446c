use Rattle.std.proofs.Common.{◌≡◌, ◌<◌, ◌-◌, ◌++◌, ◌∷◌, [], length, false}
use Rattle.std.specs.Prelude.{Some, slice_get}
use Rattle.resubscribe.specs.Cycle.{Walks}
use Rattle.resubscribe.specs.Order.{is_among}
use Rattle.resubscribe.proofs.walking.cycle_of.Given as goal

-- the walk so far, with the query at which it stands
abbrev pub invariant-loop-walk : goal.invariant-loop-walk
invariant-loop-walk l = record {
  size : l.walk.size ≡ length l.reads;
  small : l.query < length l.reads;
  untaken : is_among l.taken.numbers l.query ≡ false;
  walks : Walks l.reads l.taken.numbers (l.walk.numbers ++ l.query ∷ []);
  begins : slice_get (l.walk.numbers ++ l.query ∷ []) 0 ≡ Some l.start;
}

-- the queries that weren't met
abbrev pub decreases-loop-walk : goal.decreases-loop-walk
decreases-loop-walk l = l.walk.size - length l.walk.numbers
