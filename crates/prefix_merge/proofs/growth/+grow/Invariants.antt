use Rattle.std.proofs.Common.{length}
use Rattle.prefix_merge.proofs.growth.+grow.Given as goal

abbrev pub decreases-grow : goal.decreases-grow
decreases-grow l = length l.hops.now
