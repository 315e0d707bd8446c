use Rattle.std.proofs.Common.{◌≡◌, ◌+◌, length}
use Rattle.cay_host.specs.Output.{count_lf}
use Rattle.cay_host.proofs.tally_host.line_feeds.Given as goal

-- those that were counted, and those that are left
abbrev pub invariant-loop : goal.invariant-loop
invariant-loop l = (goal.iterator-loop).can_next l.iterator' × (goal.iterator-loop).is_finite l.iterator' × (l.lines + length l.iterator' ≡ count_lf l.bytes)
