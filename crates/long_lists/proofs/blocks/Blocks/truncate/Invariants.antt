use Rattle.std.proofs.Common.{length}
use Rattle.long_lists.proofs.BlocksLemmas.{IsReopened}
use Rattle.long_lists.proofs.blocks.Blocks.truncate.Given as goal

abbrev pub invariant-loop-self : goal.invariant-loop-self
invariant-loop-self g l = IsReopened l.fn.self l.len l.self

abbrev pub decreases-loop-self : goal.decreases-loop-self
decreases-loop-self g l = length l.self
