use Rattle.cayuga_run.proofs.stats.stats_line.Goals as goal

-- the three numbers of the session, in their places; with no open epoch all that was heard is closed
pub returns : goal.returns
returns c = λ history works. (
  record { states = c.states-states.result; plain = c.plain_states-plain.result; live = c.live-live.result },
  record {
    states = c.states-states.ensures.counted history works;
    plain = c.plain_states-plain.ensures.counted history works;
    live = rw c.requires at (c.live-live.ensures.counted history works);
  },
  c.in_ok-format.ensures.ok,
)
