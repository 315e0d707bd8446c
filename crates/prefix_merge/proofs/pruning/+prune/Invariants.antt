use Rattle.std.specs.Prelude.{count_by, is_some}
use Rattle.prefix_merge.proofs.pruning.+prune.Given as goal

abbrev pub decreases-prune : goal.decreases-prune
decreases-prune l = count_by is_some l.network.now
