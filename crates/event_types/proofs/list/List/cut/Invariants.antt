use Rattle.std.proofs.Common.{◌≡◌, ◌++◌, take, drop}
use Rattle.event_types.proofs.list.List.cut.Given as goal

-- the items so far are gone
abbrev pub invariant-loop : goal.invariant-loop
invariant-loop g l = l.self-inside.held.items ≡ take l.fn.first l.initial.self-inside.held.items ++ drop l.counter l.initial.self-inside.held.items
