use Rattle.std.proofs.Common.{refl}
use Rattle.std.specs.List.{IsDistinct}
use Rattle.stream_schema.proofs.streams.Streams.new.Goals as goal

pub invariant_of-result : goal.invariant_of-result
unfolding IsDistinct
invariant_of-result c = record {
  found = λ name own. rw (c.new.ensures, c.new-2.ensures.empty) refl;
  distinct = rw c.new.ensures tt;
}
