-- Which queries a query reads.
use Rattle.std.specs.Prelude.{ℕ, List, [], ◌∷◌, if◌then◌else◌, map, position, filter_map, slice_index_or}
use Rattle.std.specs.Str.{bytes_eq}
use Rattle.cel_grammar.specs.Trees.{Statement}
use Rattle.catalogue.specs.Statements.{is_query, queries_in, query_names, reads_by}

-- the numbers of the queries that have these names, in the names' order; the name of a declared stream is no query's
abbrev pub numbers_of : List (List ℕ) → List (List ℕ) → List ℕ
numbers_of queries names = filter_map (λ name. position (bytes_eq name) queries) names

-- for each query by its number the numbers of the queries that it reads, in reading order
abbrev pub reads_in : List Statement → List (List ℕ)
reads_in statements = map (λ query. numbers_of (query_names statements) (reads_by query)) (queries_in statements)

-- the names of queries with these numbers
abbrev pub names_at : List Statement → List ℕ → List (List ℕ)
names_at statements numbers = map (λ number. slice_index_or (query_names statements) number []) numbers

-- the list of the numbers of the queries that a statement reads, if it is a query
abbrev pub reads_added : List (List ℕ) → Statement → List (List ℕ)
reads_added queries statement = if is_query statement then numbers_of queries (reads_by statement) ∷ [] else []
