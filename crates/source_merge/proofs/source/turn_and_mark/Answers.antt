use Rattle.std.proofs.Common.{◌∙◌, ap}
use Rattle.source_merge.proofs.SourceLemmas.{bound_at, mark_is_bound}
use Rattle.source_merge.proofs.source.turn_and_mark.Goals as goal

pub returns-clause-mark : goal.returns-clause-mark
returns-clause-mark c = c.bound_at.ensures ∙ ap (bound_at c.args.slack) c.turn_in-turn.ensures ∙ mark_is_bound c.args.slack 0 c.args.sources.now
