-- The lines and the layout of an accepted query text.
use Rattle.std.specs.Prelude.{◌≡◌, List, map}
use Rattle.event_types.specs.declared.kind.Kind.{Kind}
use Rattle.stream_schema.specs.Schema.{kinds_of}
use Rattle.stream_schema.specs.Streams.{Entry, schemas_of}
use Rattle.splitter.specs.Chains.{lines_of}
use Rattle.splitter.specs.declared.chains.Chains.{Chains}
use Rattle.splitter.specs.Layouts.{IsLayoutOf}
use Rattle.catalogue.specs.Parts.{Parts, judged_of}
use Rattle.catalogue.specs.Judgement.{program_of}

-- the kinds of each stream of a table, by its number
abbrev pub kinds_of_each : List Entry → List (List Kind)
kinds_of_each streams = map kinds_of (schemas_of streams)

-- these are the lines of the accepted program, and the layout is its own
pub record AreChained (c : Parts) (chains : Chains) : Type 0 where
  pub lines : chains.lines ≡ lines_of (program_of (judged_of c))
  pub layout : IsLayoutOf (program_of (judged_of c)) (kinds_of_each (judged_of c).streams) chains.layout
