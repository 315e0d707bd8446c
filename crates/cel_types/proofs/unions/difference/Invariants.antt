use Rattle.std.proofs.Common.{◌≡◌, ◌≤◌, ◌+◌, drop, length}
use Rattle.cel_types.specs.Unions.{difference_from}
use Rattle.cel_types.proofs.unions.difference.Given as goal

abbrev pub invariant-loop-place : goal.invariant-loop-place
invariant-loop-place l = record {
  within : l.place ≤ length l.right;
  rest : difference_from 1 l.left l.right ≡ difference_from (l.place + 1) (drop l.place l.left) (drop l.place l.right);
}
