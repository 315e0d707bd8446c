use Rattle.std.proofs.Common.{◌≡◌, ◌++◌, take}
use Rattle.std.specs.Prelude.{None}
use Rattle.stream_schema.specs.Streams.{stream_names}
use Rattle.catalogue.specs.Naming.{read_fault}
use Rattle.catalogue.specs.Reading.{numbers_of}
use Rattle.catalogue.proofs.reading.add_names.Given as goal

-- none of the names so far has a fault, and the numbers of their queries were added
abbrev pub invariant-loop-name : goal.invariant-loop-name
invariant-loop-name l = record {
  none : read_fault (stream_names l.named.all) (take l.name-index l.names) ≡ None;
  numbers : l.numbers ≡ l.initial.numbers ++ numbers_of (stream_names l.named.queries) (take l.name-index l.names);
}
