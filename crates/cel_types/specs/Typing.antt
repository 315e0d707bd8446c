-- What holds while sources are typed. No public clause cites this module.
use Rattle.std.specs.Prelude.{List, Contains}
use Rattle.expressions.specs.Views.{ex_of}
use Rattle.stream_schema.specs.Streams.{Entry, stream_names}
use Rattle.cel_grammar.specs.Trees.{Source}
use Rattle.cel_grammar.specs.Trees as tree
use Rattle.cel_types.specs.declared.sources.Typed.{Typed}
use Rattle.cel_types.specs.declared.fault.TypeFault.{TypeFault}
use Rattle.cel_types.specs.Sources.{FailsToElaborate, Elaborates}

-- the source has the schema and the expression that are typed together
abbrev pub HasType : List Entry → Source → Typed → Type 0
HasType streams e typed = Elaborates streams e typed.schema (ex_of typed.expr.value)

-- each name that the source reads is that of a stream
abbrev pub ReadsStreams : List Entry → Source → Type 0
ReadsStreams streams (tree.Name a) = Contains (stream_names streams) a
ReadsStreams streams (tree.Filter p e) = ReadsStreams streams e
ReadsStreams streams (tree.Select items e) = ReadsStreams streams e
ReadsStreams streams (tree.Union e f) = ReadsStreams streams e × ReadsStreams streams f
ReadsStreams streams (tree.Next p e f) = ReadsStreams streams e × ReadsStreams streams f
ReadsStreams streams (tree.Fold p q aggs e f) = ReadsStreams streams e × ReadsStreams streams f

-- over the table of streams, whatever it is, a source has this type where the one that it is made of has its type
abbrev pub TypesOver : Typed → (Source → Source) → Typed → Type 0
TypesOver inner made typed = (streams : List Entry) (e : Source) → HasType streams e inner → HasType streams (made e) typed

-- it fails so where the one that it is made of has its type
abbrev pub FailsOver : Typed → (Source → Source) → TypeFault → Type 0
FailsOver inner made fault = (streams : List Entry) (e : Source) → HasType streams e inner → FailsToElaborate streams (made e) fault

-- a source has this type where the two that it is made of have theirs
abbrev pub TypesOverBoth : Typed → Typed → (Source → Source → Source) → Typed → Type 0
TypesOverBoth left right made typed = (streams : List Entry) (e f : Source) → HasType streams e left → HasType streams f right → HasType streams (made e f) typed

-- it fails so where the two that it is made of have their types
abbrev pub FailsOverBoth : Typed → Typed → (Source → Source → Source) → TypeFault → Type 0
FailsOverBoth left right made fault = (streams : List Entry) (e f : Source) → HasType streams e left → HasType streams f right → FailsToElaborate streams (made e f) fault
