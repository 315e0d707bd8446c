-- What a query reads from, followed through published streams.
use Rattle.std.specs.Prelude.{ℕ, List, Contains}
use Rattle.cel_grammar.specs.Trees.{Statement}
use Rattle.catalogue.specs.Statements.{name_of, reads_by}

-- a query reads from its own name, and from each name that a statement reads whose name it reads from (CIDR 2007, resubscription)
pub data ReadsFrom (statements : List Statement) (query : List ℕ) : List ℕ → Type 0 where
  own : ReadsFrom statements query query
  through : (s : Statement) {name : List ℕ} → Contains statements s → ReadsFrom statements query (name_of s) → Contains (reads_by s) name → ReadsFrom statements query name

-- each statement that the query reads from, its own and the declarations included, stands among the others too
abbrev pub ReadsTheSame : List Statement → List Statement → List ℕ → Type 0
ReadsTheSame statements others query = (s : Statement) → Contains statements s → ReadsFrom statements query (name_of s) → Contains others s
