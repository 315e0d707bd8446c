-- The canonical symbols of a statement that some symbols read as are read as it.
use Rattle.std.proofs.Common.{List, [], ◌∷◌}
use Rattle.event_types.specs.declared.kind.Kind.{Kind}
use Rattle.cel_grammar.specs.Symbols.{Symbol}
use Rattle.cel_grammar.specs.Symbols as the
use Rattle.cel_grammar.specs.Trees.{Column, Col, Statement}
use Rattle.cel_grammar.specs.Statements.{IsKind, int, text, dec, IsColumns, one, more, IsStatement, declaration, query}
use Rattle.cel_print.specs.declared.places.SourcePlace.TheVariants as source_place
use Rattle.cel_print.specs.Words.{Word, Of, symbols}
use Rattle.cel_print.specs.SourceWords.{source_words}
use Rattle.cel_print.specs.StatementWords.{kind_words, columns_words, statement_words}
use Rattle.cel_print.proofs.ReadSources.{items_read, source_reads}

-- a kind is read
kind_reads : {ts us : List Symbol} {k : Kind} → IsKind ts k us → (rest : List Word) → IsKind (symbols (kind_words k rest)) k (symbols rest)
kind_reads int rest = int
kind_reads text rest = text
kind_reads (dec few) rest = dec few

-- attributes are read, of which there is one at least
columns_read : {ts us : List Symbol} {cs : List Column} → IsColumns ts cs us → (rest : List Word) → IsColumns (symbols (columns_words cs rest)) cs (symbols rest)
columns_read (one h) rest = one (kind_reads h rest)
columns_read (more {cs = Col b l ∷ cs} h r) rest = more (kind_reads h (Of the.Comma ∷ columns_words (Col b l ∷ cs) rest)) (columns_read r rest)
columns_read (more {cs = []} h r) rest = elim r [ ]

-- the statement is read
pub statement_reads : {ts us : List Symbol} {s : Statement} → IsStatement ts s us → (rest : List Word) → IsStatement (symbols (statement_words s rest)) s (symbols rest)
statement_reads (declaration h) rest = declaration (columns_read h (Of the.Close ∷ rest))
statement_reads (query {a = a} {source = source} h k) rest =
    query (items_read h (Of the.From ∷ source_words source_place.Source source (Of the.Publish ∷ Of (the.Name a) ∷ rest))) (source_reads k (Of the.Publish ∷ Of (the.Name a) ∷ rest)).source
