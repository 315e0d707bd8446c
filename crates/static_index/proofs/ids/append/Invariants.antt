use Rattle.std.proofs.Common.{◌≡◌, ◌++◌, take}
use Rattle.static_index.proofs.ids.append.Given as goal

abbrev pub invariant-ids : goal.invariant-ids
invariant-ids l = l.found ≡ l.fn.found ++ take l.id-index l.ids
