use Rattle.std.proofs.Common.{take, map}
use Rattle.cel_grammar.specs.Views.{statement_of}
use Rattle.stream_schema.specs.Streams.{AreThere}
use Rattle.catalogue.specs.Typing.{ArePublished}
use Rattle.catalogue.proofs.publishing.publish_all.Given as goal

-- the queries so far were published
abbrev pub invariant-loop-number : goal.invariant-loop-number
invariant-loop-number l = record {
  published : ArePublished (map statement_of l.file.statements) l.initial.streams (take l.number-index l.order) l.streams l.expressions;
  there : AreThere l.initial.streams → AreThere l.streams;
}
