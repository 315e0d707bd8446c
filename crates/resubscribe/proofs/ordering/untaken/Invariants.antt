use Rattle.std.proofs.Common.{◌≡◌, ◌<◌, ℕ, false}
use Rattle.resubscribe.specs.Order.{is_untaken}
use Rattle.resubscribe.proofs.ordering.untaken.Given as goal

-- all so far are taken
abbrev pub invariant-loop-query : goal.invariant-loop-query
invariant-loop-query l = (number : ℕ) → number < l.query → is_untaken l.taken.numbers number ≡ false
