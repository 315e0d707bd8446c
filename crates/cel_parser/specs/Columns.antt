-- Parts of statements. No public clause cites this module.
use Rattle.std.specs.Prelude.{ℕ, zero, suc, List, [], ◌∷◌, Option, Some, None}
use Rattle.cel_grammar.specs.Symbols.{Symbol}
use Rattle.cel_grammar.specs.Symbols as the
use Rattle.cel_grammar.specs.Trees.{Column, Query, Statement, Stream}
use Rattle.cel_parser.specs.Lists.{with_front}
use Rattle.cel_parser.specs.ScalarReader.{◌>>=◌, Read, close_at, done}
use Rattle.cel_parser.specs.SourceReader.{from_at, items_at, source_at}
use Rattle.cel_parser.specs.StatementReader.{columns_at, publish_at}

-- columns, with those that stand before them
unfoldable pub columns_after : ℕ → List Column → List Symbol → Read (List Column)
columns_after n xs ts = with_front xs (columns_at n ts)

-- columns that may go on behind a comma
unfoldable pub columns_behind : ℕ → List Column → List Symbol → Read (List Column)
columns_behind zero xs ts = None
columns_behind (suc n) xs (the.Comma ∷ ts) = columns_after n xs ts
columns_behind (suc n) xs ts = done xs ts

-- a declaration behind its word
unfoldable pub declaration_at : ℕ → List Symbol → Read Statement
declaration_at n (the.Name a ∷ the.Open ∷ ts) = columns_at n ts >>= λ cs. close_at cs.1 >>= done (Stream a cs.0)
declaration_at n ts = None

-- a query behind its word
unfoldable pub query_at : ℕ → List Symbol → Read Statement
query_at n ts = items_at n ts >>= λ items. from_at items.1 >>= λ us. source_at n us >>= λ source. publish_at source.1 >>= λ name. done (Query items.0 source.0 name.0) name.1

-- a statement by its word
unfoldable pub statement_step : ℕ → List Symbol → Read Statement
statement_step n (the.Stream ∷ ts) = declaration_at n ts
statement_step n (the.Select ∷ ts) = query_at n ts
statement_step n ts = None

-- what was read, where no symbols are left
abbrev pub ended_at : {A : Type 0} → A → List Symbol → Option A
ended_at x [] = Some x
ended_at x ts = None

-- a statement that takes all of the symbols
unfoldable pub whole_at : ℕ → List Symbol → Option Statement
whole_at n ts = statement_step n ts >>= λ p. ended_at p.0 p.1
