use Rattle.std.proofs.Common.{◌≡◌, ◌++◌, take}
use Rattle.catalogue.proofs.held_lines.put_each_end.Given as goal

-- the numbers so far were put
abbrev pub invariant-loop-end : goal.invariant-loop-end
invariant-loop-end l = l.ends ≡ l.initial.ends ++ take l.end-index l.end-items
