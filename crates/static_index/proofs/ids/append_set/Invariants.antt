use Rattle.std.proofs.Common.{◌≡◌, ◌++◌, map}
use Rattle.std.specs.Map.Iter.{deref}
use Rattle.static_index.proofs.ids.append_set.Given as goal

abbrev pub invariant-ids : goal.invariant-ids
invariant-ids l = l.found ≡ l.fn.found ++ map deref l.yielded
