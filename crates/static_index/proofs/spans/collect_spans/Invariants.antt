use Rattle.std.proofs.Common.{ℕ, map, Contains}
use Rattle.std.specs.Map.Iter.{deref_pair}
use Rattle.static_index.proofs.SpanLemmas.{FoundAmong}
use Rattle.static_index.proofs.spans.collect_spans.Given as goal

abbrev pub invariant-reaches : goal.invariant-reaches
invariant-reaches l = record {
  kept : (n : ℕ) → Contains l.initial.found n → Contains l.found n;
  found : FoundAmong l.value (map deref_pair l.yielded) l.found;
}
