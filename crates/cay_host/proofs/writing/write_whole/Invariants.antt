use Rattle.std.proofs.Common.{◌≡◌, ◌≤◌, ◌-◌, [], None, length, take}
use Rattle.cay_host.specs.Calls.{FailedLast}
use Rattle.cay_host.specs.Output.{Wrote, SameButOutput}
use Rattle.cay_host.proofs.writing.write_whole.Given as goal

abbrev pub invariant-loop-at : goal.invariant-loop-at
invariant-loop-at g l = record {
  within : l.at ≤ length l.bytes;
  wrote : Wrote (take l.at l.bytes) (g.H.Host.told l.initial.host) (g.H.Host.told l.host);
  same : SameButOutput (g.H.Host.told l.initial.host) (g.H.Host.told l.host);
  quiet : (g.H.Host.told l.host).write_faults ≡ (g.H.Host.told l.initial.host).write_faults;
  none_failed : FailedLast None (g.H.Host.told l.initial.host) (g.H.Host.told l.host);
  untouched : l.bytes ≡ [] → l.host ≡ l.initial.host;
}

abbrev pub decreases-loop-at : goal.decreases-loop-at
decreases-loop-at g l = length l.bytes - l.at
