use Rattle.std.proofs.Common.{◌≡◌, ◌==◌, take}
use Rattle.std.specs.List.{filter}
use Rattle.event_types.specs.Tuple.{TupleView}
use Rattle.reference.proofs.publishing.tuples_at.Given as goal

-- what was found is those of the tuples so far that have the time
abbrev pub invariant-loop-tuple : goal.invariant-loop-tuple
invariant-loop-tuple l = l.found ≡ filter (λ (tuple : TupleView). tuple.at == l.time) (take l.tuple-index l.tuples)
