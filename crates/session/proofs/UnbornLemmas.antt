-- Queries without births.
use Rattle.std.proofs.Common.{refl, ℕ, List}
use Rattle.std.specs.List.{All}
use Rattle.std.proofs.lemmas.List.Elements.{All-nil, All-cons}
use Rattle.semantics.specs.Programs.{IsUnborn, Query}
use Rattle.stream_schema.specs.Streams.{Entry}
use Rattle.cel_grammar.specs.Trees.{Statement}
use Rattle.catalogue.specs.Typing.{Publish, next, none}

-- the queries of a text were there from the start
pub queries_unborn : {queries : List Statement} {streams all : List Entry} {hidden : ℕ} {order : List ℕ} {done : List Query} → Publish queries streams hidden order all done → All IsUnborn done
queries_unborn none = All-nil IsUnborn
queries_unborn (next {more = more} schema x there typed rest) = All-cons IsUnborn _ more refl (queries_unborn rest)
