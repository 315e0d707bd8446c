use Rattle.std.proofs.Common.{◌*◌, ◌+◌}
use Rattle.cel_parser.proofs.items.+aggregates.Given as goal

abbrev pub decreases-more_aggs : goal.decreases-more_aggs
decreases-more_aggs l = 2 * l.fuel

abbrev pub decreases-next_agg : goal.decreases-next_agg
decreases-next_agg l = 2 * l.fuel + 1
