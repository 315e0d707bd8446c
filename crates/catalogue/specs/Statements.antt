-- The statements of a file: their names, and what they read.
use Rattle.std.specs.Prelude.{ℕ, Bool, true, false, List, [], ◌∷◌, map, if◌then◌else◌}
use Rattle.std.specs.List.{filter}
use Rattle.cel_grammar.specs.Trees.{Statement, Stream, Query}
use Rattle.cel_types.specs.Statements.{read_names}

-- the name of a statement: that of the stream which it declares, or which it publishes
abbrev pub name_of : Statement → List ℕ
name_of (Stream name columns) = name
name_of (Query items source name) = name

-- whether the statement is a query
abbrev pub is_query : Statement → Bool
is_query (Stream name columns) = false
is_query (Query items source name) = true

-- the names that a statement reads, in reading order
abbrev pub reads_by : Statement → List (List ℕ)
reads_by (Stream name columns) = []
reads_by (Query items source name) = read_names source

-- the names of statements, in their order
abbrev pub names_in : List Statement → List (List ℕ)
names_in statements = map name_of statements

-- the queries of a file, in its order; a query's number is its place here, from 0
abbrev pub queries_in : List Statement → List Statement
queries_in statements = filter is_query statements

-- the names that queries publish, by the queries' numbers
abbrev pub query_names : List Statement → List (List ℕ)
query_names statements = names_in (queries_in statements)

-- the name that a statement publishes, if it is a query
abbrev pub published_by : Statement → List (List ℕ)
published_by statement = if is_query statement then name_of statement ∷ [] else []
