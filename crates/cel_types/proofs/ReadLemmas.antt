-- The names that a source reads are those of streams.
use Rattle.std.proofs.Common.{◌≡◌, List, arith, lit<}
use Rattle.std.specs.Prelude.{Contains}
use Rattle.std.specs.List.{All}
use Rattle.std.proofs.lemmas.List.Elements.{All-append}
use Rattle.stream_schema.specs.Streams.{Entry, stream_names}
use Rattle.cel_grammar.specs.Trees.{Source}
use Rattle.cel_grammar.specs.Trees as tree
use Rattle.cel_types.specs.Statements.{read_names}
use Rattle.cel_types.specs.Typing.{ReadsStreams}
use Rattle.semantics.proofs.ListLemmas.{All-left, All-right}

-- each name that is read is a stream's, by induction on the source
pub reads-streams : (streams : List Entry) (e : Source) → All (Contains (stream_names streams)) (read_names e) → ReadsStreams streams e
reads-streams streams (tree.Name a) h = h 0 a (lit< tt)
reads-streams streams (tree.Filter p e) h = reads-streams streams e h
reads-streams streams (tree.Select items e) h = reads-streams streams e h
reads-streams streams (tree.Union e f) h = (reads-streams streams e (All-left (Contains (stream_names streams)) (read_names e) (read_names f) h), reads-streams streams f (All-right (Contains (stream_names streams)) (read_names e) (read_names f) h))
reads-streams streams (tree.Next p e f) h = (reads-streams streams e (All-left (Contains (stream_names streams)) (read_names e) (read_names f) h), reads-streams streams f (All-right (Contains (stream_names streams)) (read_names e) (read_names f) h))
reads-streams streams (tree.Fold p q aggs e f) h = (reads-streams streams e (All-left (Contains (stream_names streams)) (read_names e) (read_names f) h), reads-streams streams f (All-right (Contains (stream_names streams)) (read_names e) (read_names f) h))

-- and the other way round
pub streams-read : (streams : List Entry) (e : Source) → ReadsStreams streams e → All (Contains (stream_names streams)) (read_names e)
streams-read streams (tree.Name a) h = λ k d within. let first : k ≡ 0 = omega arith in rw first h
streams-read streams (tree.Filter p e) h = streams-read streams e h
streams-read streams (tree.Select items e) h = streams-read streams e h
streams-read streams (tree.Union e f) h = All-append (Contains (stream_names streams)) (read_names e) (read_names f) (streams-read streams e h.0) (streams-read streams f h.1)
streams-read streams (tree.Next p e f) h = All-append (Contains (stream_names streams)) (read_names e) (read_names f) (streams-read streams e h.0) (streams-read streams f h.1)
streams-read streams (tree.Fold p q aggs e f) h = All-append (Contains (stream_names streams)) (read_names e) (read_names f) (streams-read streams e h.0) (streams-read streams f h.1)
