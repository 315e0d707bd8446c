-- The lines of the queries of a program, and their streams in the order of work.
use Rattle.std.specs.Prelude.{⊤, ℕ, ◌<◌, ◌≤◌, ◌⊎◌, List, [], ◌∷◌, map}
use Rattle.std.specs.List.{All, flat_map}
use Rattle.semantics.specs.Programs.{Program, Query}
use Rattle.automaton.specs.declared.line.Line.{Line}
use Rattle.splitter.specs.Laws.{split_order}
use Rattle.splitter.specs.Splitting.{parts_of, split_lines}

-- the lines of queries, one query after another (CIDR 2007, resubscription)
abbrev pub chain_lines : List Query → List Line
chain_lines order = flat_map (λ query. split_lines query.expr query.stream query.hidden) order

-- the streams that they publish, in the order of work: for each query its hidden streams, and then its own
abbrev pub chain_order : List Query → List ℕ
chain_order order = flat_map (λ query. split_order query.expr query.stream query.hidden) order

-- the first number behind the hidden streams of a query, which have the numbers from its first one on
abbrev pub hidden_end : Query → ℕ
hidden_end query = (parts_of query.expr query.hidden).next

-- the first number behind the hidden streams of the last query; without queries it is the given one
abbrev pub chain_end : List Query → ℕ → ℕ
chain_end [] next = next
chain_end (query ∷ order) next = chain_end order (hidden_end query)

-- the later query doesn't publish a hidden stream of the query, and its own hidden ones come behind them
abbrev pub LeavesHidden : Query → Query → Type 0
LeavesHidden query later = ((later.stream < query.hidden) ⊎ (hidden_end query ≤ later.stream)) × (hidden_end query ≤ later.hidden)

-- the hidden streams of each query have greater numbers than its own stream, and no later query has one of them
abbrev pub HideApart : List Query → Type 0
HideApart [] = ⊤
HideApart (query ∷ order) = (query.stream < query.hidden) × All (LeavesHidden query) order × HideApart order

-- the lines of a program
abbrev pub lines_of : Program → List Line
lines_of program = chain_lines program.order

-- the derived streams of a program in the order of work, hidden ones included
abbrev pub work_order : Program → List ℕ
work_order program = chain_order program.order

-- the streams of a program that are printed: those of its queries, in the order of the file
abbrev pub outs_of : Program → List ℕ
outs_of program = map (λ query. query.stream) program.queries

-- a number above those of all streams of a program
abbrev pub end_of : Program → ℕ
end_of program = chain_end program.order program.declared
