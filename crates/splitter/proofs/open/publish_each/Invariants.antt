use Rattle.std.proofs.Common.{◌≡◌, ◌++◌, map}
use Rattle.splitter.specs.Splitting.{published_on}
use Rattle.splitter.proofs.open.publish_each.Given as goal

-- the lines so far were added
abbrev pub invariant-loop-line : goal.invariant-loop-line
invariant-loop-line l = l.lines ≡ l.fn.lines ++ map (published_on l.out) l.yielded
