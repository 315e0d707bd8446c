use Rattle.std.proofs.Common.{◌≡◌, ◌≤◌, ◌++◌, length}
use Rattle.std.specs.Prelude.{reverse}
use Rattle.long_lists.proofs.long_list.LongList.append.Given as goal

-- the items so far are behind those that were
abbrev pub invariant-loop-item : goal.invariant-loop-item
invariant-loop-item g l = record { all : l.self ++ reverse l.backwards ≡ l.fn.self ++ l.fn.more; more : l.len ≤ length l.self }

abbrev pub decreases-loop-item : goal.decreases-loop-item
decreases-loop-item g l = length l.backwards
