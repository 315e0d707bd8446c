-- The types of a file: its declarations in file order, then its queries in the order of work.
use Rattle.std.specs.Prelude.{◌≡◌, ℕ, true, false, List, [], ◌∷◌, ◌++◌, length, map, Some, slice_get, None}
use Rattle.std.specs.List.{items_where_true}
use Rattle.expressions.specs.declared.expression.Expr.{Expr}
use Rattle.expressions.specs.Views.{ex_of}
use Rattle.semantics.specs.Expressions.{Ex}
use Rattle.semantics.specs.Programs.{Query}
use Rattle.splitter.specs.Splitting.{parts_of}
use Rattle.stream_schema.specs.Schema.{Attr}
use Rattle.stream_schema.specs.Streams.{Entry}
use Rattle.cel_grammar.specs.Trees.{Column, Item, Source, Statement}
use Rattle.cel_grammar.specs.Trees as tree
use Rattle.cel_types.specs.declared.fault.TypeFault.{TypeFault}
use Rattle.cel_types.specs.Declarations.{IsDeclared, FailsToDeclare}
use Rattle.cel_types.specs.Statements.{FailsAsQuery, Queries}
use Rattle.catalogue.specs.declared.fault.QueryFault.{QueryFault}
use Rattle.catalogue.specs.Faults.{IsOfTypes}
use Rattle.catalogue.specs.Statements.{is_query, name_of, queries_in}

-- the statements declare these streams, in file order
pub data FileDeclares : List Statement → List Entry → Type 0 where
  none : FileDeclares [] []
  stream : {name : List ℕ} {columns : List Column} {schema : List Attr} {later : List Statement} {streams : List Entry}
      → IsDeclared columns schema → FileDeclares later streams → FileDeclares (tree.Stream name columns ∷ later) (record { name = name; schema = schema; declared = true } ∷ streams)
  query : {items : List Item} {source : Source} {name : List ℕ} {later : List Statement} {streams : List Entry} → FileDeclares later streams → FileDeclares (tree.Query items source name ∷ later) streams

-- the declared streams with that of one statement more, if it is a declaration
abbrev pub Adds : Statement → List Entry → List Entry → Type 0
Adds (tree.Stream name columns) old new = (schema : List Attr) × IsDeclared columns schema × (new ≡ old ++ record { name = name; schema = schema; declared = true } ∷ [])
Adds (tree.Query items source name) old new = new ≡ old

-- the first declaration that has a fault has this one, and begins on this line
pub data FileFailsToDeclare : List Statement → List ℕ → ℕ → TypeFault → Type 0 where
  here : {name : List ℕ} {columns : List Column} {later : List Statement} {line : ℕ} {lines : List ℕ} {f : TypeFault} → FailsToDeclare columns f → FileFailsToDeclare (tree.Stream name columns ∷ later) (line ∷ lines) line f
  behind : {name : List ℕ} {columns : List Column} {schema : List Attr} {later : List Statement} {at line : ℕ} {lines : List ℕ} {f : TypeFault}
      → IsDeclared columns schema → FileFailsToDeclare later lines line f → FileFailsToDeclare (tree.Stream name columns ∷ later) (at ∷ lines) line f
  query : {items : List Item} {source : Source} {name : List ℕ} {later : List Statement} {at line : ℕ} {lines : List ℕ} {f : TypeFault}
      → FileFailsToDeclare later lines line f → FileFailsToDeclare (tree.Query items source name ∷ later) (at ∷ lines) line f

-- the lines on which the queries of a file begin, by the queries' numbers
abbrev pub query_lines : List Statement → List ℕ → List ℕ
query_lines statements lines = items_where_true (map is_query statements) lines

-- the stream that a query publishes
abbrev pub published_by : Statement → List Attr → Entry
published_by statement schema = record { name = name_of statement; schema = schema; declared = false }

-- behind these streams the queries with these numbers publish one after another: each is typed over the streams before it, its stream is the next, and its hidden streams have the next numbers from the given one on; so these are the streams then, and these the queries
pub data Publish (queries : List Statement) : List Entry → ℕ → List ℕ → List Entry → List Query → Type 0 where
  none : {streams : List Entry} {hidden : ℕ} → Publish queries streams hidden [] streams []
  next : {streams all : List Entry} {hidden number : ℕ} {order : List ℕ} {s : Statement} {more : List Query} (schema : List Attr) (x : Ex)
      → slice_get queries number ≡ Some s → Queries streams s schema x → Publish queries (streams ++ published_by s schema ∷ []) (parts_of x hidden).next order all more
      → Publish queries streams hidden (number ∷ order) all (record { name = name_of s; stream = length streams; hidden = hidden; expr = x; birth = None } ∷ more)

-- the first of the queries with these numbers that has a fault has this one, and begins on this line
pub data FailToPublish (queries : List Statement) (lines : List ℕ) : List Entry → List ℕ → ℕ → TypeFault → Type 0 where
  here : {streams : List Entry} {number line : ℕ} {order : List ℕ} {s : Statement} {f : TypeFault}
      → slice_get queries number ≡ Some s → slice_get lines number ≡ Some line → FailsAsQuery streams s f → FailToPublish queries lines streams (number ∷ order) line f
  behind : {streams : List Entry} {number line : ℕ} {order : List ℕ} {s : Statement} {f : TypeFault} (schema : List Attr) (x : Ex)
      → slice_get queries number ≡ Some s → Queries streams s schema x → FailToPublish queries lines (streams ++ published_by s schema ∷ []) order line f → FailToPublish queries lines streams (number ∷ order) line f

-- the streams with that of one query more, which is typed over those before it and has this expression
pub record AddsQuery (s : Statement) (old new : List Entry) (x : Ex) : Type 0 where
  pub schema : List Attr
  pub typed : Queries old s schema x
  pub added : new ≡ old ++ published_by s schema ∷ []

-- behind these streams the queries with these numbers publish more, where hidden streams stand behind those of all statements, and have these expressions one after another
pub record ArePublished (statements : List Statement) (old : List Entry) (order : List ℕ) (new : List Entry) (expressions : List Expr) : Type 0 where
  pub queries : List Query
  pub publish : Publish (queries_in statements) old (length statements) order new queries
  pub expressions_are : map (λ q. q.expr) queries ≡ map ex_of expressions

-- a fault of types as one of a query text, on this line
pub record FailsOn (at : ℕ) (is_fault : TypeFault → Type 0) (line : ℕ) (why : QueryFault) : Type 0 where
  pub on_line : line ≡ at
  pub fault : TypeFault
  pub is : is_fault fault
  pub same : IsOfTypes fault why

-- the first fault of the declarations, as one of a query text
pub record FailsInDeclarations (statements : List Statement) (lines : List ℕ) (line : ℕ) (why : QueryFault) : Type 0 where
  pub fault : TypeFault
  pub fails : FileFailsToDeclare statements lines line fault
  pub same : IsOfTypes fault why

-- the first fault of the queries with these numbers, behind these streams, as one of a query text
pub record FailsInQueries (statements : List Statement) (lines : List ℕ) (streams : List Entry) (order : List ℕ) (line : ℕ) (why : QueryFault) : Type 0 where
  pub fault : TypeFault
  pub fails : FailToPublish (queries_in statements) (query_lines statements lines) streams order line fault
  pub same : IsOfTypes fault why
