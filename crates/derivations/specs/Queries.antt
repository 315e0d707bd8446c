-- Queries as they are derived, as terms.
use Rattle.std.specs.Prelude.{ℕ, [], None}
use Rattle.expressions.specs.Views.{ex_of}
use Rattle.semantics.specs.Expressions.{Ex}
use Rattle.semantics.specs.Programs.{Query as Term}
use Rattle.derivations.specs.declared.publishing.Query.{Query}

-- the query as a term; neither its name nor the number of its hidden streams is of account here
abbrev pub query_of : Query → Term
query_of query = record { name = []; stream = query.stream; hidden = 0; expr = ex_of query.expr.now; birth = None }

-- what a query publishes, and by which expression
abbrev pub work_of : Term → ℕ × Ex
work_of query = (query.stream, query.expr)
