use Rattle.std.proofs.Common.{◌≡◌, ◌++◌, map}
use Rattle.std.specs.List.{flat_map}
use Rattle.std.specs.Map.Iter.{deref_pair}
use Rattle.static_index.specs.Buckets.{ids_if_met}
use Rattle.static_index.proofs.ordered.walk_met.Given as goal

abbrev pub invariant-buckets : goal.invariant-buckets
invariant-buckets l = l.found ≡ l.fn.found ++ flat_map (ids_if_met l.cmp l.value) (map deref_pair l.yielded)
