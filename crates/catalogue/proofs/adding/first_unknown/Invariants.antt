use Rattle.std.proofs.Common.{◌≡◌, take}
use Rattle.std.specs.Prelude.{None}
use Rattle.std.specs.List.{All}
use Rattle.stream_schema.specs.Streams.{stream_names}
use Rattle.catalogue.specs.Taking.{IsKnownName}
use Rattle.catalogue.specs.Naming.{read_fault}
use Rattle.catalogue.proofs.adding.first_unknown.Given as goal

-- streams have the names so far
pub record HaveStreams (l : goal.Live-loop-name) : Type 0 where
  pub none : read_fault (stream_names l.streams) (take l.name-index l.names) ≡ None
  pub known : All (IsKnownName l.streams) (take l.name-index l.names)

abbrev pub invariant-loop-name : goal.invariant-loop-name
invariant-loop-name l = HaveStreams l
