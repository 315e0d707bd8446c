use Rattle.std.proofs.Common.{◌≡◌, ◌≤◌, ◌-◌, ◌+◌, length, None}
use Rattle.std.specs.Io.KnownBytes.{prepend_known}
use Rattle.cay_host.specs.Calls.{FailedLast}
use Rattle.cay_host.specs.Input.{SameButRead}
use Rattle.cayuga_run.proofs.sides.read_side.Given as goal

abbrev pub invariant-pieces : goal.invariant-pieces
invariant-pieces g l = record {
  within : length l.bytes.items ≤ l.limit + 1;
  front : (g.H.Host.told l.initial.host).left l.side ≡ prepend_known l.bytes.items ((g.H.Host.told l.host).left l.side);
  quiet : (g.H.Host.told l.host).read_faults ≡ (g.H.Host.told l.initial.host).read_faults;
  last : FailedLast None (g.H.Host.told l.initial.host) (g.H.Host.told l.host);
  same : SameButRead l.side (g.H.Host.told l.initial.host) (g.H.Host.told l.host);
}

abbrev pub decreases-pieces : goal.decreases-pieces
decreases-pieces g l = l.limit + 1 - length l.bytes.items
