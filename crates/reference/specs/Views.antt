-- Queries as a program.
use Rattle.std.specs.Prelude.{◌≡◌, ⊤, ℕ, ◌+◌, List, [], ◌∷◌, map, slice_get, None}
use Rattle.std.specs.List.{filter_map}
use Rattle.semantics.specs.Programs.{Program, Query as Term}
use Rattle.expressions.specs.Views.{ex_of}
use Rattle.reference.specs.declared.query.Query.{Query}

-- the query as a term; it has no lines, so the number of its hidden streams is of no account
abbrev pub query_of : Query → Term
query_of query = record { name = query.name.now; stream = query.stream; hidden = 0; expr = ex_of query.expr.now; birth = None }

-- the queries at these places, in the order of the places
abbrev pub placed : List Query → List ℕ → List Term
placed queries places = filter_map (slice_get (map query_of queries)) places

-- the program of so many declared streams and these queries, which are worked on in the order of the places
abbrev pub program_of : ℕ → List Query → List ℕ → Program
program_of declared queries places = record { declared = declared; queries = map query_of queries; order = placed queries places }

-- from a number on each query in turn publishes the next stream
abbrev pub PublishNext : ℕ → List Term → Type 0
PublishNext number [] = ⊤
PublishNext number (query ∷ order) = (query.stream ≡ number) × PublishNext (number + 1) order
