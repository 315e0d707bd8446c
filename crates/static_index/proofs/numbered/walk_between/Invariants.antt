use Rattle.std.proofs.Common.{◌≡◌, ◌++◌, map}
use Rattle.std.specs.List.{flat_map}
use Rattle.std.specs.Map.Iter.{deref_pair}
use Rattle.static_index.proofs.numbered.walk_between.Given as goal

abbrev pub invariant-buckets : goal.invariant-buckets
invariant-buckets l = l.found ≡ l.fn.found ++ flat_map (λ e. e.1) (map deref_pair l.yielded)
