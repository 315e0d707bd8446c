-- The text of statements by their parts.
use Rattle.std.proofs.Common.{◌≡◌, ◌∙◌, ℕ, List, [], ◌∷◌, ◌++◌, refl, ap, subst, append_assoc}
use Rattle.std.specs.Prelude.{codes, decimal}
use Rattle.std.specs.List.{flat_map}
use Rattle.event_types.specs.KindWord.{kind_word}
use Rattle.event_types.specs.declared.kind.Kind.{Kind}
use Rattle.event_types.specs.declared.kind.Kind.TheVariants as kind
use Rattle.cel_grammar.specs.Symbols as the
use Rattle.cel_grammar.specs.Trees.{Item, Source, Column, Col, Stream, Query}
use Rattle.cel_print.specs.declared.places.SourcePlace.TheVariants as source_place
use Rattle.cel_print.specs.Words.{Word, Of}
use Rattle.cel_print.specs.SourceWords.{items_words, source_words}
use Rattle.cel_print.specs.StatementWords.{kind_words, columns_words, statement_words}
use Rattle.cel_print.specs.Spelled.{line_of}
use Rattle.cel_print.specs.Parts.{items_text, source_text, column_text, columns_text}
use Rattle.cel_print.proofs.Spacing.{whole, Front, Tail, behind, leaf, spaced, linked, followed, chained, prefixed, opened, idle}
use Rattle.cel_print.proofs.TextSources.{items_tail, source_front}

-- a kind, and what stands behind it
kind_tail : (k : Kind) (g : List Word → List Word) (b : List ℕ) → Tail g b → Tail (λ r. kind_words k (g r)) (codes " " ++ (kind_word k ++ b))
kind_tail kind.Int g b tail = linked (Of the.Int) g b (record { free = refl; loose = λ right. refl }) tail
kind_tail kind.Text g b tail = linked (Of the.Text) g b (record { free = refl; loose = λ right. refl }) tail
kind_tail (kind.Dec places) g b tail =
    linked (Of (the.Name (codes "DEC"))) (λ r. Of (the.Number places) ∷ g r) (codes " " ++ (decimal places ++ b)) (record { free = refl; loose = λ right. refl })
    (linked (Of (the.Number places)) g b (record { free = refl; loose = λ right. refl }) tail)

-- a name with its kind, and what stands behind it
column_front : (a : List ℕ) (k : Kind) (g : List Word → List Word) (b : List ℕ) → Tail g b → Front (λ r. Of (the.Name a) ∷ kind_words k (g r)) (column_text (Col a k) ++ b)
column_front a k g b tail =
    subst (Front (λ r. Of (the.Name a) ∷ kind_words k (g r))) (simp append_assoc)
    (prefixed (Of (the.Name a)) (λ r. kind_words k (g r)) (codes " " ++ (kind_word k ++ b)) refl (record { free = refl; loose = λ right. refl }) (kind_tail k g b tail))

-- names with their kinds, of which there is one at least
some_columns : (c : Column) (cs : List Column) → Front (columns_words (c ∷ cs)) (column_text c ++ flat_map (λ next. codes ", " ++ column_text next) cs)
some_columns (Col a k) [] = column_front a k (λ r. r) [] idle
some_columns (Col a k) (c ∷ cs) =
    column_front a k (λ r. Of the.Comma ∷ columns_words (c ∷ cs) r) _
    (linked (Of the.Comma) (columns_words (c ∷ cs)) (codes " " ++ (column_text c ++ flat_map (λ next. codes ", " ++ column_text next) cs)) (record { free = refl; loose = λ right. refl }) (spaced (columns_words (c ∷ cs)) _ (some_columns c cs)))

-- the closing parenthesis
close_tail : Tail (λ r. Of the.Close ∷ r) (codes ")")
close_tail = linked (Of the.Close) (λ r. r) [] (record { free = refl; loose = λ right. refl }) idle

-- names with their kinds in parentheses
columns_tail : (cs : List Column) → Tail (λ r. Of the.Open ∷ columns_words cs (Of the.Close ∷ r)) (codes " (" ++ (columns_text cs ++ codes ")"))
columns_tail [] = λ r. ap (λ (s : List ℕ). codes " ()" ++ s) (behind (Of the.Close) r (record { free = refl; loose = λ right. refl }))
columns_tail (c ∷ cs) = spaced (λ r. Of the.Open ∷ columns_words (c ∷ cs) (Of the.Close ∷ r)) _ (opened (λ r. columns_words (c ∷ cs) (Of the.Close ∷ r)) _ (followed (columns_words (c ∷ cs)) (λ r. Of the.Close ∷ r) _ _ (some_columns c cs) close_tail))

-- a declaration
stream_front : (a : List ℕ) (cs : List Column) → Front (statement_words (Stream a cs)) (codes "STREAM " ++ (a ++ (codes " (" ++ (columns_text cs ++ codes ")"))))
stream_front a cs =
    prefixed (Of the.Stream) (λ r. Of (the.Name a) ∷ Of the.Open ∷ columns_words cs (Of the.Close ∷ r)) (codes " " ++ (a ++ (codes " (" ++ (columns_text cs ++ codes ")")))) refl (record { free = refl; loose = λ right. refl })
    (linked (Of (the.Name a)) (λ r. Of the.Open ∷ columns_words cs (Of the.Close ∷ r)) (codes " (" ++ (columns_text cs ++ codes ")")) (record { free = refl; loose = λ right. refl }) (columns_tail cs))

-- a query
query_front : (items : List Item) (e : Source) (a : List ℕ) → Front (statement_words (Query items e a)) (codes "SELECT" ++ (items_text items ++ (codes " FROM " ++ (source_text source_place.Source e ++ (codes " PUBLISH " ++ a)))))
query_front items e a =
    let publish : Tail (λ r. Of the.Publish ∷ Of (the.Name a) ∷ r) (codes " PUBLISH " ++ a) =
    linked (Of the.Publish) (λ r. Of (the.Name a) ∷ r) (codes " " ++ a) (record { free = refl; loose = λ right. refl }) (spaced (λ r. Of (the.Name a) ∷ r) a (leaf (Of (the.Name a)) refl (record { free = refl; loose = λ right. refl }))) in
    let from : Tail (λ r. Of the.From ∷ source_words source_place.Source e (Of the.Publish ∷ Of (the.Name a) ∷ r)) (codes " FROM " ++ (source_text source_place.Source e ++ (codes " PUBLISH " ++ a))) =
    linked (Of the.From) (λ r. source_words source_place.Source e (Of the.Publish ∷ Of (the.Name a) ∷ r)) (codes " " ++ (source_text source_place.Source e ++ (codes " PUBLISH " ++ a))) (record { free = refl; loose = λ right. refl })
    (spaced (λ r. source_words source_place.Source e (Of the.Publish ∷ Of (the.Name a) ∷ r)) _ (followed (source_words source_place.Source e) (λ r. Of the.Publish ∷ Of (the.Name a) ∷ r) _ _ (source_front source_place.Source e) publish)) in
    prefixed (Of the.Select) (λ r. items_words items (Of the.From ∷ source_words source_place.Source e (Of the.Publish ∷ Of (the.Name a) ∷ r))) (items_text items ++ (codes " FROM " ++ (source_text source_place.Source e ++ (codes " PUBLISH " ++ a)))) refl (record { free = refl; loose = λ right. refl })
    (chained (items_words items) (λ r. Of the.From ∷ source_words source_place.Source e (Of the.Publish ∷ Of (the.Name a) ∷ r)) _ _ (items_tail items) from)

-- the line of a declaration
pub stream_line : (a : List ℕ) (cs : List Column) → line_of (Stream a cs) ≡ codes "STREAM " ++ (a ++ (codes " (" ++ (columns_text cs ++ codes ");\n")))
stream_line a cs = ap (λ (s : List ℕ). s ++ codes ";\n") (whole (statement_words (Stream a cs)) _ (stream_front a cs)) ∙ simp append_assoc

-- the line of a query
pub query_line : (items : List Item) (e : Source) (a : List ℕ) → line_of (Query items e a) ≡ codes "SELECT" ++ (items_text items ++ (codes " FROM " ++ (source_text source_place.Source e ++ (codes " PUBLISH " ++ (a ++ codes ";\n")))))
query_line items e a = ap (λ (s : List ℕ). s ++ codes ";\n") (whole (statement_words (Query items e a)) _ (query_front items e a)) ∙ simp append_assoc
