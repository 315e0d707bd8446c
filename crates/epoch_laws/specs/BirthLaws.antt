-- Laws of what flows after a birth: lines of queries that came at different times share states, and yet each reads only what is detected after its birth.
use Rattle.std.specs.Prelude.{◌≡◌, ℕ, ◌==◌, List, map, Option}
use Rattle.std.specs.List.{filter, flat_map}
use Rattle.semantics.specs.Denotation.{Streams}
use Rattle.automaton.specs.Flow.{flow, given}
use Rattle.automaton.specs.Prefixes.{Prefix}
use Rattle.automaton.specs.Waiting.{waiting}
use Rattle.automaton.specs.Work.{completed}
use Rattle.automaton.specs.declared.line.Hop.{Hop}
use Rattle.automaton.specs.declared.line.Line.{Line}
use Rattle.semantics.specs.Births.{streams_after}
use Rattle.instances.specs.Births.{began_after}
use Rattle.epoch_laws.specs.Births.{AreSound}
use Rattle.epoch_laws.specs.BornLines.{BornLine, unborn}
use Rattle.epoch_laws.specs.InstanceFlow.{completed_after, derived_after, flow_instances, waiting_instances}
use Rattle.epoch_laws.specs.Instances.{bindings_of}

-- without the times at which they began, the instances that flow are the tuples that flow
abbrev pub InstancesFlow : Type 0
InstancesFlow = (streams : Streams) (prefix : Prefix) → bindings_of (flow_instances streams prefix) ≡ flow streams prefix

-- and those that wait are the bindings that wait
abbrev pub InstancesWait : Type 0
InstancesWait = (streams : Streams) (prefix : Prefix) (hop : Hop) → bindings_of (waiting_instances streams prefix hop) ≡ waiting streams prefix hop

-- the instances that began after a birth are, in their order, those that flow over the streams cut there
abbrev pub LaterInstancesFlow : Type 0
LaterInstancesFlow =
    (streams : Streams) (birth : Option ℕ) (prefix : Prefix) → AreSound streams → began_after birth (flow_instances streams prefix) ≡ flow_instances (streams_after birth streams) prefix

-- so each line gives what it gives over the streams cut at its birth
abbrev pub BornLinesReadLater : Type 0
BornLinesReadLater =
    (lines : List BornLine) (streams : Streams) (stream : ℕ) → AreSound streams
    → derived_after lines streams stream ≡ flat_map (λ born. given (streams_after born.birth streams) born.line) (filter (λ born. born.line.out == stream) lines)

-- and without births the streams are those of the lines
abbrev pub UnbornLinesReadAll : Type 0
UnbornLinesReadAll = (lines : List Line) (order : List ℕ) (streams : Streams) → completed_after (map unborn lines) order streams ≡ completed lines order streams
