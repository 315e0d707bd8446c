-- No symbols that read as a statement are fewer, or nested less, than its canonical ones.
use Rattle.std.proofs.Common.{List, [], ◌∷◌, refl}
use Rattle.std.specs.Prelude.{codes}
use Rattle.event_types.specs.declared.kind.Kind.{Kind}
use Rattle.cel_grammar.specs.Symbols.{Symbol}
use Rattle.cel_grammar.specs.Symbols as the
use Rattle.cel_grammar.specs.Trees.{Column, Col, Statement}
use Rattle.cel_grammar.specs.Statements.{IsKind, int, text, dec, IsColumns, one, more, IsStatement, declaration, query}
use Rattle.cel_print.specs.declared.places.SourcePlace.TheVariants as source_place
use Rattle.cel_print.specs.Words.{Word, Of}
use Rattle.cel_print.specs.SourceWords.{items_words, source_words}
use Rattle.cel_print.specs.StatementWords.{kind_words, columns_words, statement_words}
use Rattle.cel_print.proofs.Bounds.{Bound, idle, leaf, joined, prefixed, enclosed, parens}
use Rattle.cel_print.proofs.BoundSources.{items_bound, source_bound}

-- a kind
kind_bound : {ts us : List Symbol} {k : Kind} → IsKind ts k us → (f : List Word → List Word) (rest : List Symbol) → Bound 0 f us rest → Bound 0 (λ r. kind_words k (f r)) ts rest
kind_bound {us = us} int f rest b = prefixed the.Int f us rest (λ d ts. refl) b
kind_bound {us = us} text f rest b = prefixed the.Text f us rest (λ d ts. refl) b
kind_bound {us = us} (dec {places = n} few) f rest b =
    prefixed (the.Name (codes "DEC")) (λ r. Of (the.Number n) ∷ f r) (the.Number n ∷ us) rest (λ d ts. refl) (prefixed (the.Number n) f us rest (λ d ts. refl) b)

-- names with their kinds
columns_bound : {ts rest : List Symbol} {cs : List Column} → IsColumns ts cs rest → Bound 0 (columns_words cs) ts rest
columns_bound {rest = rest} (one {a = a} {k = k} {ts = ts} h) = prefixed (the.Name a) (λ r. kind_words k r) ts rest (λ d ts. refl) (kind_bound h (λ r. r) rest (idle rest))
columns_bound {rest = rest} (more {a = a} {k = k} {ts = ts} {us = us} {cs = Col b l ∷ cs} h r) =
    prefixed (the.Name a) (λ r. kind_words k (Of the.Comma ∷ columns_words (Col b l ∷ cs) r)) ts rest (λ d ts. refl)
    (kind_bound h (λ r. Of the.Comma ∷ columns_words (Col b l ∷ cs) r) rest (prefixed the.Comma (columns_words (Col b l ∷ cs)) us rest (λ d ts. refl) (columns_bound r)))
columns_bound (more {cs = []} h r) = elim r [ ]

-- a statement
pub statement_bound : {ts rest : List Symbol} {s : Statement} → IsStatement ts s rest → Bound 0 (statement_words s) ts rest
statement_bound {rest = rest} (declaration {a = a} {ts = ts} {cs = cs} h) =
    prefixed the.Stream _ (the.Name a ∷ the.Open ∷ ts) rest (λ d ts. refl) (prefixed (the.Name a) _ (the.Open ∷ ts) rest (λ d ts. refl)
    (enclosed the.Open the.Close (columns_words cs) (λ r. r) ts rest rest parens (columns_bound h) (idle rest)))
statement_bound {rest = rest} (query {a = a} {ts = ts} {us = us} {items = items} {source = source} h k) =
    prefixed the.Select _ ts rest (λ d ts. refl) (joined 0 the.From (items_words items) (λ r. source_words source_place.Source source (Of the.Publish ∷ Of (the.Name a) ∷ r)) ts us rest (λ d ts. refl) (items_bound h)
    (joined 0 the.Publish (source_words source_place.Source source) (λ r. Of (the.Name a) ∷ r) us (the.Name a ∷ rest) rest (λ d ts. refl) (source_bound k).source (leaf (the.Name a) rest (λ d ts. refl))))
