use Rattle.std.proofs.Common.{ℕ, map, Contains}
use Rattle.std.specs.Map.Iter.{deref_pair}
use Rattle.static_index.proofs.TablesLemmas.{FoundIn}
use Rattle.static_index.proofs.tables.Tables.collect.Given as goal

abbrev pub invariant-columns : goal.invariant-columns
invariant-columns l = record {
  kept : (n : ℕ) → Contains l.initial.found n → Contains l.found n;
  found : FoundIn l.event (map deref_pair l.yielded) l.found;
}
