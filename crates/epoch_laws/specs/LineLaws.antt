-- Laws of one epoch along lines, over streams up to its time.
use Rattle.std.specs.Prelude.{◌≡◌, ℕ}
use Rattle.std.specs.List.Sorted.{IsPermutation}
use Rattle.semantics.specs.Denotation.{Streams}
use Rattle.automaton.specs.Prefixes.{Prefix}
use Rattle.automaton.specs.declared.line.Hop.{Hop}
use Rattle.epoch_laws.specs.BornLines.{BornLine}
use Rattle.epoch_laws.specs.Epochs.{stepped}
use Rattle.epoch_laws.specs.InstanceFlow.{given_after, waiting_instances}
use Rattle.epoch_laws.specs.Instances.{instances_entering}
use Rattle.epoch_laws.specs.Lines.{flow_now, given_now}
use Rattle.epoch_laws.specs.Times.{ArePast, during, streams_before, streams_during}

-- what a line gives in the epoch after its birth comes from its tuples and from the instances that waited before it
abbrev pub LineGivesInEpoch : Type 0
LineGivesInEpoch = (time : ℕ) (streams : Streams) → ArePast time streams → (born : BornLine) → during time (given_after streams born) ≡ given_now (streams_during time streams) (streams_before time streams) born

-- the instances that wait at a state after the epoch are those that waited there before it, stepped through it
abbrev pub StateKeeps : Type 0
StateKeeps =
    (time : ℕ) (streams : Streams) → ArePast time streams → (prefix : Prefix) (hop : Hop)
    → IsPermutation (waiting_instances streams prefix hop)
    (stepped hop.wait.choose hop.wait.fold (during time (streams hop.wait.stream)) (instances_entering hop (flow_now (streams_during time streams) (streams_before time streams) prefix)) (waiting_instances (streams_before time streams) prefix hop))
