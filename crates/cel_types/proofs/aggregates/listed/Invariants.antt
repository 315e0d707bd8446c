use Rattle.std.proofs.Common.{◌≡◌}
use Rattle.cel_types.proofs.aggregates.listed.Given as goal

abbrev pub invariant-loop-term : goal.invariant-loop-term
invariant-loop-term l = l.list ≡ l.yielded
