use Rattle.std.proofs.Common.{take, map}
use Rattle.cel_grammar.specs.Views.{statement_of}
use Rattle.stream_schema.specs.Streams.{AreThere}
use Rattle.catalogue.specs.Typing.{FileDeclares}
use Rattle.catalogue.proofs.declaring.declare_all.Given as goal

-- the statements so far declare the streams, none of which is retired
abbrev pub invariant-loop-place : goal.invariant-loop-place
invariant-loop-place l = record {
  declares : FileDeclares (take l.place (map statement_of l.file.statements)) l.streams;
  there : AreThere l.streams;
}
