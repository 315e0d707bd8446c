use Rattle.std.proofs.Common.{◌≡◌, ◌++◌, length, filter, nat_le}
use Rattle.public_calls.proofs.tests.chains.take_below.Given as goal

abbrev pub invariant-loop-number : goal.invariant-loop-number
invariant-loop-number l = (l.walk.chain.ghost_name ≡ l.initial.walk.chain.ghost_name)
    × (l.walk.passed ++ filter (λ n. nat_le l.least n) l.walk.chain.now ≡ filter (λ n. nat_le l.least n) l.initial.walk.chain.now)

abbrev pub decreases-loop-number : goal.decreases-loop-number
decreases-loop-number l = length l.walk.chain.now
