use Rattle.std.proofs.Common.{◌≡◌, ◌≤◌, ◌*◌, ◌^◌}
use Rattle.event_csv.proofs.decimals.with_zeros.Given as goal

-- so many zeros are there
abbrev pub invariant-loop-zero : goal.invariant-loop-zero
invariant-loop-zero l = record {
  value : l.found ≡ l.number * 10 ^ l.zero;
  fits : l.found ≤ l.most;
}
