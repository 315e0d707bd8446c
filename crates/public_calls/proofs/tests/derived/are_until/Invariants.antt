use Rattle.std.proofs.Common.{◌<◌, ◌≤◌, ℕ, get_or}
use Rattle.derivations.specs.declared.history.Heard.{Heard}
use Rattle.public_calls.proofs.tests.derived.are_until.Given as goal

-- the events so far are detected until the time
abbrev pub invariant-loop-event : goal.invariant-loop-event
invariant-loop-event g l = (k : ℕ) → k < l.event-index → (d : Heard) → (get_or l.events k d).tuple.at ≤ l.time
