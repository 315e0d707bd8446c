-- The canonical words of statements.
use Rattle.std.specs.Prelude.{List, [], ◌∷◌, codes}
use Rattle.event_types.specs.declared.kind.Kind.{Kind}
use Rattle.event_types.specs.declared.kind.Kind.TheVariants as kind
use Rattle.cel_grammar.specs.Symbols as the
use Rattle.cel_grammar.specs.Trees.{Column, Col, Statement, Stream, Query}
use Rattle.cel_print.specs.declared.places.SourcePlace.TheVariants as source_place
use Rattle.cel_print.specs.Words.{Word, Of}
use Rattle.cel_print.specs.SourceWords.{items_words, source_words}

-- a kind, and then rest: INT, TEXT, or the name DEC and a number of places
abbrev pub kind_words : Kind → List Word → List Word
kind_words kind.Int rest = Of the.Int ∷ rest
kind_words kind.Text rest = Of the.Text ∷ rest
kind_words (kind.Dec places) rest = Of (the.Name (codes "DEC")) ∷ Of (the.Number places) ∷ rest

-- names with their kinds between commas, and then rest
abbrev pub columns_words : List Column → List Word → List Word
columns_words [] rest = rest
columns_words (Col name k ∷ []) rest = Of (the.Name name) ∷ kind_words k rest
columns_words (Col name k ∷ next ∷ columns) rest = Of (the.Name name) ∷ kind_words k (Of the.Comma ∷ columns_words (next ∷ columns) rest)

-- a statement, and then rest
abbrev pub statement_words : Statement → List Word → List Word
statement_words (Stream name columns) rest = Of the.Stream ∷ Of (the.Name name) ∷ Of the.Open ∷ columns_words columns (Of the.Close ∷ rest)
statement_words (Query items source name) rest = Of the.Select ∷ items_words items (Of the.From ∷ source_words source_place.Source source (Of the.Publish ∷ Of (the.Name name) ∷ rest))
