-- What the text of an added query is judged to be, over the streams that are there.
use Rattle.std.specs.Prelude.{◌≡◌, ℕ, ◌+◌, ◌<◌, ◌≤◌, List, length, take, count_by, Some, None, Err}
use Rattle.cel_lexer.specs.Bytes.{is_line_feed}
use Rattle.cel_lexer.specs.Faults.{tokens_of}
use Rattle.cel_lexer.specs.declared.fault.LexFault.{LexFault}
use Rattle.semantics.specs.Expressions.{Ex}
use Rattle.stream_schema.specs.Schema.{Attr}
use Rattle.stream_schema.specs.Streams.{Entry, stream_names}
use Rattle.cel_grammar.specs.Trees.{Statement}
use Rattle.cel_parser.specs.OneQuery.{IsNotOneQuery, IsOneQuery}
use Rattle.cel_parser.specs.declared.fault.SyntaxFault.{SyntaxFault}
use Rattle.cel_types.specs.Statements.{FailsAsQuery, Queries}
use Rattle.cel_types.specs.declared.fault.TypeFault.{TypeFault}
use Rattle.catalogue.specs.declared.fault.QueryFault.{QueryFault}
use Rattle.catalogue.specs.declared.fault.QueryFault.TheVariants as fault
use Rattle.catalogue.specs.Faults.{IsOfSyntax, IsOfTokens, IsOfTypes}
use Rattle.catalogue.specs.Filing.{most_bytes}
use Rattle.catalogue.specs.Naming.{name_fault, read_fault}
use Rattle.catalogue.specs.Statements.{name_of, reads_by}

-- why a text isn't one query: it is too long, on the line at which it passes the limit; or its tokens have a fault; or its sentences aren't one
pub data FailsAsOneQuery (text : List ℕ) : ℕ → QueryFault → Type 0 where
  long : most_bytes < length text → FailsAsOneQuery text (count_by is_line_feed (take most_bytes text) + 1) fault.TooLong
  tokens : {f : LexFault} {line : ℕ} {why : QueryFault} → length text ≤ most_bytes → tokens_of text ≡ Err f → IsOfTokens f line why → FailsAsOneQuery text line why
  syntax : {f : SyntaxFault} {line : ℕ} {why : QueryFault} → length text ≤ most_bytes → IsNotOneQuery text f → IsOfSyntax f line why → FailsAsOneQuery text line why

-- an added query: its statement, the attributes of its stream and its expression
pub record AddedQuery : Type 0 where
  pub statement : Statement
  pub schema : List Attr
  pub expr : Ex

-- an added query is accepted, or refused with a fault on a line
pub data AddedVerdict : Type 0 where
  Taken : AddedQuery → AddedVerdict
  NotTaken : ℕ → QueryFault → AddedVerdict

-- the statement on a line is judged so: its name is reserved or that of a stream; or it reads a name that no stream has; or its types have a fault; or it is taken
pub data JudgesStatement (streams : List Entry) (s : Statement) (line : ℕ) : AddedVerdict → Type 0 where
  named : {why : QueryFault} → name_fault (stream_names streams) (name_of s) ≡ Some why → JudgesStatement streams s line (NotTaken line why)
  reads : {why : QueryFault} → name_fault (stream_names streams) (name_of s) ≡ None → read_fault (stream_names streams) (reads_by s) ≡ Some why → JudgesStatement streams s line (NotTaken line why)
  typed : {f : TypeFault} {why : QueryFault}
      → name_fault (stream_names streams) (name_of s) ≡ None → read_fault (stream_names streams) (reads_by s) ≡ None → FailsAsQuery streams s f → IsOfTypes f why → JudgesStatement streams s line (NotTaken line why)
  taken : {schema : List Attr} {x : Ex} → name_fault (stream_names streams) (name_of s) ≡ None → read_fault (stream_names streams) (reads_by s) ≡ None → Queries streams s schema x
      → JudgesStatement streams s line (Taken (record { statement = s; schema = schema; expr = x }))

-- the text is judged so: it isn't one query; or its one query is judged so
pub data JudgesAdded (streams : List Entry) (text : List ℕ) : AddedVerdict → Type 0 where
  text : {line : ℕ} {why : QueryFault} → FailsAsOneQuery text line why → JudgesAdded streams text (NotTaken line why)
  one : {s : Statement} {line : ℕ} {verdict : AddedVerdict} → length text ≤ most_bytes → IsOneQuery text s line → JudgesStatement streams s line verdict → JudgesAdded streams text verdict

-- the text of an added query has at most one verdict
abbrev pub OneAddedVerdict : Type 0
OneAddedVerdict = (streams : List Entry) (text : List ℕ) (verdict other : AddedVerdict) → JudgesAdded streams text verdict → JudgesAdded streams text other → verdict ≡ other

-- it has a verdict
abbrev pub SomeAddedVerdict : Type 0
SomeAddedVerdict = (streams : List Entry) (text : List ℕ) → (verdict : AddedVerdict) × JudgesAdded streams text verdict
