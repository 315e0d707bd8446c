-- A query that may come to a catalogue over the streams that are there.
use Rattle.std.specs.Prelude.{◌≡◌, ℕ, ◌+◌, ◌≤◌, List, length, sum_by, Some, None}
use Rattle.std.specs.List.{All}
use Rattle.expressions.specs.Views.{ex_of}
use Rattle.semantics.specs.Expressions.{Ex}
use Rattle.splitter.specs.Splitting.{parts_of, split_lines}
use Rattle.stream_schema.specs.Streams.{Entry, number_of}
use Rattle.stream_schema.specs.Table.{IsOwn}
use Rattle.cel_grammar.specs.Views.{statement_of}
use Rattle.cel_types.specs.Statements.{Queries}
use Rattle.catalogue.specs.declared.adding.Coming.{Coming}
use Rattle.catalogue.specs.Adding.{AddedQuery}
use Rattle.catalogue.specs.Standing.{IsKnown}
use Rattle.catalogue.specs.Statements.{name_of, reads_by}

-- the added query that a text was judged to be
abbrev pub added_of : Coming → AddedQuery
added_of query = record { statement = statement_of query.statement; schema = query.schema; expr = ex_of query.expr }

-- the stream that has the name is known
abbrev pub IsKnownName : List Entry → List ℕ → Type 0
IsKnownName streams name = (stream : ℕ) → number_of name streams ≡ Some stream → IsKnown streams stream

-- an expression takes few numbers for hidden streams, and has few lines
pub record IsFew (e : Ex) : Type 0 where
  pub numbers : (next : ℕ) → (parts_of e next).next ≤ next + 1024
  pub lines : (out next : ℕ) → sum_by (λ line. 1 + length line.hops) (split_lines e out next) ≤ 1048576

-- a query that may be added over streams: it is typed over them, its name is new, it reads streams that are known, and it is small
pub record IsFit (streams : List Entry) (added : AddedQuery) : Type 0 where
  pub typed : Queries streams added.statement added.schema added.expr
  pub new : number_of (name_of added.statement) streams ≡ None
  pub own : IsOwn (name_of added.statement)
  pub known : All (IsKnownName streams) (reads_by added.statement)
  pub few : IsFew added.expr
