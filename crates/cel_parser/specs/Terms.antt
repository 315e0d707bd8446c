-- Parts of sources. No public clause cites this module.
use Rattle.std.specs.Prelude.{ℕ, List, ◌∷◌, None}
use Rattle.cel_grammar.specs.Symbols.{Symbol}
use Rattle.cel_grammar.specs.Symbols as the
use Rattle.cel_grammar.specs.Trees.{Filter, Name, Select, Source}
use Rattle.cel_parser.specs.Links.{condition_at, link_at, linked}
use Rattle.cel_parser.specs.ScalarReader.{◌>>=◌, Read, close_at, done}
use Rattle.cel_parser.specs.SourceReader.{from_at, items_at, source_at, source_more, term_at}

-- a source that goes on behind a link
unfoldable pub linked_at : ℕ → Source → List Symbol → Read Source
linked_at n e ts = link_at n ts >>= λ k. term_at n k.1 >>= λ f. source_more n (linked k.0 e f.0) f.1

-- a SELECT behind its word
unfoldable pub selection_at : ℕ → List Symbol → Read Source
selection_at n ts = items_at n ts >>= λ is. from_at is.1 >>= λ us. source_at n us >>= λ e. close_at e.1 >>= done (Select is.0 e.0)

-- what stands in a parenthesis: a SELECT or a source
unfoldable pub inner_at : ℕ → List Symbol → Read Source
inner_at n (the.Select ∷ ts) = selection_at n ts
inner_at n ts = source_at n ts >>= λ e. close_at e.1 >>= done e.0

-- a FILTER behind the opening brace
unfoldable pub filter_at : ℕ → List Symbol → Read Source
filter_at n ts = condition_at n ts >>= λ p. term_at n p.1 >>= λ e. done (Filter p.0 e.0) e.1

-- a term
unfoldable pub term_step : ℕ → List Symbol → Read Source
term_step n (the.Name a ∷ ts) = done (Name a) ts
term_step n (the.Open ∷ ts) = inner_at n ts
term_step n (the.Filter ∷ the.BraceOpen ∷ ts) = filter_at n ts
term_step n ts = None
