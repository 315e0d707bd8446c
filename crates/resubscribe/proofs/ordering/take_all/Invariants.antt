use Rattle.std.proofs.Common.{◌≡◌, ◌<◌, ◌-◌, ℕ, [], length, false}
use Rattle.resubscribe.specs.Order.{TakesQuery, is_ready}
use Rattle.resubscribe.proofs.ordering.take_all.Given as goal

-- the queries so far are taken in order, and none before the place is ready
abbrev pub invariant-loop-query : goal.invariant-loop-query
invariant-loop-query l = record {
  size : l.taken.size ≡ length l.reads;
  takes : TakesQuery l.reads [] l.taken.numbers;
  none_before : (query : ℕ) → query < l.from → is_ready l.reads l.taken.numbers query ≡ false;
}

-- the queries that aren't taken
abbrev pub decreases-loop-query : goal.decreases-loop-query
decreases-loop-query l = l.taken.size - length l.taken.numbers
