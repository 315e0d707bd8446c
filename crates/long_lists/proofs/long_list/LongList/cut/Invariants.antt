use Rattle.std.proofs.Common.{◌≡◌, ◌++◌, take, drop}
use Rattle.long_lists.proofs.long_list.LongList.cut.Given as goal

-- the items so far are gone
abbrev pub invariant-loop : goal.invariant-loop
invariant-loop g l = l.self ≡ take l.fn.first l.fn.self ++ drop l.counter l.fn.self
