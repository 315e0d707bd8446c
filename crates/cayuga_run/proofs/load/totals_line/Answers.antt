use Rattle.std.proofs.Common.{◌∙◌}
use Rattle.cayuga_run.proofs.SummaryLemmas.{joined_line}
use Rattle.cayuga_run.proofs.load.totals_line.Goals as goal

-- the numbers of the session, in their places; with no open epoch all that was heard is closed
pub returns : goal.returns
returns c = λ history works. record {
  states = c.states-states.result;
  live = c.live-live.result;
  counts_states = c.states-states.ensures.counted history works;
  counts_live = rw c.requires.none_open at (c.live-live.ensures.counted history works);
  value = joined_line _ _ _ c.args.events c.epoch_count-epochs.result c.query_count-queries.result c.states-states.result c.args.results c.live-live.result
      c.in_ok-push_str.ensures.bytes c.in_ok-line.ensures.ok (c.deref.ensures ∙ c.in_ok-totals.ensures.ok) c.epoch_count-epochs.ensures.value c.query_count-queries.ensures;
}
