use Rattle.std.proofs.Common.{◌-◌, ◌≤◌, length}
use Rattle.work_order.specs.Turns.{rank_in}
use Rattle.work_order.proofs.turns.find.Given as goal

-- the turn stands between both places
abbrev pub invariant-loop-first : goal.invariant-loop-first
invariant-loop-first l = record { low : l.first ≤ rank_in l.turns l.fn.own; high : rank_in l.turns l.fn.own ≤ l.end; within : l.end ≤ length l.turns }

abbrev pub decreases-loop-first : goal.decreases-loop-first
decreases-loop-first l = l.end - l.first
