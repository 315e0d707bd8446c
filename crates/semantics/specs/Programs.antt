-- Programs, and the streams of a program over a history.
use Rattle.std.specs.Prelude.{◌≡◌, ℕ, ◌==◌, nat_lt, if◌then◌else◌, List, [], ◌∷◌, Option, None}
use Rattle.event_types.specs.Tuple.{TupleView}
use Rattle.semantics.specs.Births.{streams_after}
use Rattle.semantics.specs.Expressions.{Ex}
use Rattle.semantics.specs.Denotation.{Streams, denote}
use Rattle.semantics.specs.Histories.{Event, heard_on}

-- a query: its name, the number of the stream that it publishes, the number of the first of its hidden streams, which its own lines publish and none but them read, its expression, and its birth: the last closed time when it was added, or none
pub record Query : Type 0 where
  pub name : List ℕ
  pub stream : ℕ
  pub hidden : ℕ
  pub expr : Ex
  pub birth : Option ℕ

-- the query was there from the start
abbrev pub IsUnborn : Query → Type 0
IsUnborn query = query.birth ≡ None

-- a program: how many streams are declared, which have the numbers from 0 on; the queries in the order of the file and then of addition; and the same queries in the order of work, where each stands after those that it reads
pub record Program : Type 0 where
  pub declared : ℕ
  pub queries : List Query
  pub order : List Query

-- each declared stream has the tuples that were heard on it, and no other stream has any
abbrev pub declared_streams : ℕ → List Event → Streams
declared_streams declared history stream = if nat_lt stream declared then heard_on history stream else []

-- the streams with these tuples at one number
abbrev pub with_stream : Streams → ℕ → List TupleView → Streams
with_stream streams number tuples stream = if stream == number then tuples else streams stream

-- the streams once each query in turn has published what its expression denotes over the streams before it, each cut to the tuples that are detected after the query's birth (CIDR 2007, resubscription; births are this project's profile)
abbrev pub published : Streams → List Query → Streams
published streams [] = streams
published streams (query ∷ order) = published (with_stream streams query.stream (denote query.expr (streams_after query.birth streams))) order

-- the streams of a program over a history
abbrev pub env : Program → List Event → Streams
env program history = published (declared_streams program.declared history) program.order
