use Rattle.std.proofs.Common.{◌≡◌, ◌≤◌, ◌<◌, ℕ, false}
use Rattle.resubscribe.specs.Order.{is_ready}
use Rattle.resubscribe.proofs.ordering.ready_from.Given as goal

-- none so far is ready
abbrev pub invariant-loop-query : goal.invariant-loop-query
invariant-loop-query l = (number : ℕ) → l.from ≤ number → number < l.query → is_ready l.reads l.taken.numbers number ≡ false
