use Rattle.std.proofs.Common.{◌≡◌, ◌+◌, length, take}
use Rattle.stream_schema.specs.Joining.{joined_schema}
use Rattle.stream_schema.proofs.joining.join.Given as goal

abbrev pub invariant-loop-place : goal.invariant-loop-place
invariant-loop-place l = record {
  attributes : l.schema ≡ joined_schema l.left (take l.place l.right);
  count : length l.schema ≡ length l.left + l.place;
}
