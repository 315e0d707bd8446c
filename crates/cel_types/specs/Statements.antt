-- The types of statements, and their first fault.
use Rattle.std.specs.Prelude.{⊤, ℕ, List, [], ◌∷◌, ◌++◌, Contains}
use Rattle.std.specs.List.{All}
use Rattle.semantics.specs.Expressions.{Ex}
use Rattle.stream_schema.specs.Schema.{Attr}
use Rattle.stream_schema.specs.Streams.{Entry, stream_names}
use Rattle.cel_grammar.specs.Trees.{Source, Statement}
use Rattle.cel_grammar.specs.Trees as tree
use Rattle.cel_types.specs.declared.fault.TypeFault.{TypeFault}
use Rattle.cel_types.specs.Declarations.{IsDeclared, FailsToDeclare}
use Rattle.cel_types.specs.Sources.{Elaborates, FailsToElaborate}

-- the names that a source reads, from left to right as written
abbrev pub read_names : Source → List (List ℕ)
read_names (tree.Name a) = a ∷ []
read_names (tree.Filter p e) = read_names e
read_names (tree.Select items e) = read_names e
read_names (tree.Union e f) = read_names e ++ read_names f
read_names (tree.Next p e f) = read_names e ++ read_names f
read_names (tree.Fold p q aggs e f) = read_names e ++ read_names f

-- the statement is a declaration
abbrev pub IsDeclaration : Statement → Type 0
IsDeclaration (tree.Stream name columns) = ⊤
IsDeclaration (tree.Query items e name) = ⊥

-- the statement is a query, and each name that it reads is that of a stream
abbrev pub IsQueryOver : List Entry → Statement → Type 0
IsQueryOver streams (tree.Stream name columns) = ⊥
IsQueryOver streams (tree.Query items e name) = All (Contains (stream_names streams)) (read_names e)

-- the declaration has this schema
abbrev pub Declares : Statement → List Attr → Type 0
Declares (tree.Stream name columns) schema = IsDeclared columns schema
Declares (tree.Query items e name) schema = ⊥

-- the first fault of the declaration is this one
abbrev pub FailsAsDeclaration : Statement → TypeFault → Type 0
FailsAsDeclaration (tree.Stream name columns) f = FailsToDeclare columns f
FailsAsDeclaration (tree.Query items e name) f = ⊥

-- the query has this schema and this expression: its items select from its source
abbrev pub Queries : List Entry → Statement → List Attr → Ex → Type 0
Queries streams (tree.Stream name columns) schema x = ⊥
Queries streams (tree.Query items e name) schema x = Elaborates streams (tree.Select items e) schema x

-- the first fault of the query is this one
abbrev pub FailsAsQuery : List Entry → Statement → TypeFault → Type 0
FailsAsQuery streams (tree.Stream name columns) f = ⊥
FailsAsQuery streams (tree.Query items e name) f = FailsToElaborate streams (tree.Select items e) f
