use Rattle.std.proofs.Common.{◌≡◌, length, false, List, None}
use Rattle.cay_host.specs.Calls.{FailedLast}
use Rattle.cay_host.specs.Output.{SameButOutput}
use Rattle.semantics.specs.Histories.{Event}
use Rattle.event_csv.specs.Fed.{unread_lines}
use Rattle.session.specs.Standing.{IsAtWork, StandsFor, moment_at}
use Rattle.session.specs.HandsOutSomeLines.{HandsOutSomeLines}
use Rattle.session.specs.Owes.{GoesOn, stage_at}
use Rattle.session.specs.TestsLeft.{TestsGoOn}
use Rattle.session.proofs.lines.work_through.Given as goal

abbrev pub invariant-lines : goal.invariant-lines
invariant-lines g l = record {
  goes_on : (history : List Event) → StandsFor l.initial.catalogue history l.initial.work.engine
      → GoesOn (unread_lines l.initial.feed false) (unread_lines l.feed false) (stage_at l.initial.catalogue l.initial.work history) l.catalogue l.work (g.H.Host.told l.initial.host) (g.H.Host.told l.host);
  tests : (history : List Event) → StandsFor l.initial.catalogue history l.initial.work.engine
      → TestsGoOn (unread_lines l.initial.feed false) (unread_lines l.feed false) (moment_at l.initial.catalogue l.initial.work.engine) history l.catalogue l.work.engine l.initial.steps l.steps;
  at_work : IsAtWork l.catalogue l.work;
  gone : HandsOutSomeLines l.initial.feed l.feed;
  quiet : (g.H.Host.told l.host).write_faults ≡ (g.H.Host.told l.initial.host).write_faults;
  last : FailedLast None (g.H.Host.told l.initial.host) (g.H.Host.told l.host);
  same : SameButOutput (g.H.Host.told l.initial.host) (g.H.Host.told l.host);
}

abbrev pub decreases-lines : goal.decreases-lines
decreases-lines g l = length (unread_lines l.feed false)
