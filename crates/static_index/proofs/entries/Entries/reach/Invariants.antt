use Rattle.std.proofs.Common.{◌≡◌}
use Rattle.static_index.proofs.entries.Entries.reach.Given as goal

abbrev pub invariant-loop : goal.invariant-loop
invariant-loop l = l.self ≡ l.fn.self
