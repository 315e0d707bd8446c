-- The lines of queries, with their births.
use Rattle.std.specs.Prelude.{ℕ, List, map, Option}
use Rattle.std.specs.List.{flat_map}
use Rattle.semantics.specs.Expressions.{Ex}
use Rattle.semantics.specs.Programs.{Program, Query}
use Rattle.automaton.specs.declared.line.Line.{Line}
use Rattle.epoch_laws.specs.BornLines.{BornLine}
use Rattle.splitter.specs.Splitting.{split_lines}

-- a line of a query with this birth
abbrev pub born_at : Option ℕ → Line → BornLine
born_at birth line = record { line = line; birth = birth }

-- the lines that publish an expression on a stream, all with one birth
abbrev pub born_split : Option ℕ → Ex → ℕ → ℕ → List BornLine
born_split birth e out next = map (born_at birth) (split_lines e out next)

-- the lines of queries, one query after another, each with the birth of its query
abbrev pub born_chain : List Query → List BornLine
born_chain order = flat_map (λ query. born_split query.birth query.expr query.stream query.hidden) order

-- the lines of a program, each with the birth of its query
abbrev pub born_lines : Program → List BornLine
born_lines program = born_chain program.order
