use Rattle.std.proofs.Common.{◌≡◌, ◌++◌, take}
use Rattle.scalar_expr.proofs.following.add_vals.Given as goal

-- the values so far were added
abbrev pub invariant-loop-value : goal.invariant-loop-value
invariant-loop-value l = l.vals ≡ l.initial.vals ++ take l.value-index l.more
