use Rattle.std.proofs.Common.{◌≡◌, ◌≤◌, ℕ, length}
use Rattle.automaton.specs.States.{state_at}
use Rattle.prefix_merge.proofs.pruning.shorten.Given as goal

-- the states are the same, in so many places
abbrev pub invariant-loop-places : goal.invariant-loop-places
invariant-loop-places l = record {
  same : (number : ℕ) → state_at l.network number ≡ state_at l.initial.network number;
  counted : l.places ≡ length l.network;
  shorter : length l.network ≤ length l.initial.network;
}

abbrev pub decreases-loop-places : goal.decreases-loop-places
decreases-loop-places l = l.places
