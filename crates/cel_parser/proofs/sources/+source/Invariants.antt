use Rattle.std.proofs.Common.{◌*◌, ◌+◌}
use Rattle.cel_parser.proofs.sources.+source.Given as goal

abbrev pub decreases-go_on_source : goal.decreases-go_on_source
decreases-go_on_source l = 4 * l.fuel

abbrev pub decreases-link_source : goal.decreases-link_source
decreases-link_source l = 4 * l.fuel + 1

abbrev pub decreases-read_filter : goal.decreases-read_filter
decreases-read_filter l = 4 * l.fuel + 1

abbrev pub decreases-read_inner : goal.decreases-read_inner
decreases-read_inner l = 4 * l.fuel + 2

abbrev pub decreases-read_selection : goal.decreases-read_selection
decreases-read_selection l = 4 * l.fuel + 1

abbrev pub decreases-read_source : goal.decreases-read_source
decreases-read_source l = 4 * l.fuel

abbrev pub decreases-read_term : goal.decreases-read_term
decreases-read_term l = 4 * l.fuel

abbrev pub decreases-term_by_sign : goal.decreases-term_by_sign
decreases-term_by_sign l = 4 * l.fuel + 3
