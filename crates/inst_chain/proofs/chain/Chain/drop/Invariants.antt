use Rattle.std.proofs.Common.{length}
use Rattle.inst_chain.proofs.chain.Chain.drop.Given as goal

abbrev pub decreases-loop-run : goal.decreases-loop-run
decreases-loop-run g l = length l.self
