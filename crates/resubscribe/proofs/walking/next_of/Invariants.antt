use Rattle.std.proofs.Common.{◌≡◌, ◌<◌, ℕ, false, get_or}
use Rattle.resubscribe.specs.Order.{is_untaken}
use Rattle.resubscribe.proofs.walking.next_of.Given as goal

-- the reads so far are all taken
abbrev pub invariant-loop-read : goal.invariant-loop-read
invariant-loop-read l = (k : ℕ) → k < l.read-index → is_untaken l.taken.numbers (get_or l.read-items k 0) ≡ false
