use Rattle.std.proofs.Common.{◌+◌, ◌*◌, ◌-◌, ◌≤◌}
use Rattle.static_index.proofs.span.reach.Given as goal

abbrev pub invariant-doublings : goal.invariant-doublings
invariant-doublings l = record {
  positive : 1 ≤ l.reach;
  near : l.reach ≤ 2 * l.width + 1;
}

abbrev pub decreases-doublings : goal.decreases-doublings
decreases-doublings l = l.width - l.reach
