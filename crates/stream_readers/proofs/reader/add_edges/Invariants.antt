use Rattle.std.proofs.Common.{◌++◌, map, take}
use Rattle.std.specs.List.Sorted.{IsPermutation}
use Rattle.stream_readers.specs.Filing.{filed_to}
use Rattle.stream_readers.specs.declared.target.Target.TheVariants.{Edge}
use Rattle.stream_readers.proofs.reader.add_edges.Given as goal

-- the edges so far are added
abbrev pub invariant-loop-state : goal.invariant-loop-state
invariant-loop-state l = IsPermutation l.index (l.initial.index ++ map (λ state. filed_to l.network (Edge state)) (take l.state-index l.states))
