-- The canonical words of items, aggregates and sources.
use Rattle.std.specs.Prelude.{ℕ, Bool, true, false, List, [], ◌∷◌, if◌then◌else◌}
use Rattle.std.specs.Str.{bytes_eq}
use Rattle.cel_grammar.specs.declared.mark.Mark.TheVariants as mark
use Rattle.cel_grammar.specs.Symbols as the
use Rattle.cel_grammar.specs.Trees.{Scalar, Attr, Pred, True, Item, All, Named, Agg, Set, Source, Name, Filter, Select, Union, Next, Fold}
use Rattle.cel_print.specs.declared.places.SourcePlace.TheVariants as source_place
use Rattle.cel_print.specs.declared.places.ScalarPlace.TheVariants as scalar_place
use Rattle.cel_print.specs.declared.places.PredPlace.TheVariants as pred_place
use Rattle.cel_print.specs.declared.places.SourcePlace.{SourcePlace}
use Rattle.cel_print.specs.Words.{Word, Of, within}
use Rattle.cel_print.specs.ScalarWords.{scalar_words}
use Rattle.cel_print.specs.PredicateWords.{pred_words}

-- the scalar is an attribute without a mark that has this name
abbrev pub is_own_name : Scalar → List ℕ → Bool
is_own_name (Attr mark.Bare attribute) name = bytes_eq attribute name
is_own_name x name = false

-- a scalar under a name, and then rest
abbrev pub named_words : Scalar → List ℕ → List Word → List Word
named_words x name rest = scalar_words scalar_place.Scalar x (Of the.As ∷ Of (the.Name name) ∷ rest)

-- an item, and then rest: an attribute under its own name is the name alone
abbrev pub item_words : Item → List Word → List Word
item_words All rest = Of the.Star ∷ rest
item_words (Named x name) rest = if is_own_name x name then Of (the.Name name) ∷ rest else named_words x name rest

-- items between commas, and then rest
abbrev pub items_words : List Item → List Word → List Word
items_words [] rest = rest
items_words (i ∷ []) rest = item_words i rest
items_words (i ∷ j ∷ items) rest = item_words i (Of the.Comma ∷ items_words (j ∷ items) rest)

-- aggregates, each behind a comma, and then rest
abbrev pub aggs_words : List Agg → List Word → List Word
aggs_words [] rest = rest
aggs_words (Set x name ∷ aggs) rest = Of the.Comma ∷ named_words x name (aggs_words aggs rest)

-- the condition of a NEXT in its braces, and then rest: TRUE is left out with them
abbrev pub condition_words : Pred → List Word → List Word
condition_words True rest = rest
condition_words p rest = Of the.BraceOpen ∷ pred_words pred_place.Pred p (Of the.BraceClose ∷ rest)

-- a UNION, a NEXT or a FOLD may stand there as it is
abbrev pub takes_link : SourcePlace → Bool
takes_link source_place.Source = true
takes_link source_place.Term = false

-- a source at this place, and then rest: an inner SELECT is in parentheses at any place
abbrev pub source_words : SourcePlace → Source → List Word → List Word
source_words place (Name name) rest = Of (the.Name name) ∷ rest
source_words place (Filter p e) rest = Of the.Filter ∷ Of the.BraceOpen ∷ pred_words pred_place.Pred p (Of the.BraceClose ∷ source_words source_place.Term e rest)
source_words place (Select items e) rest = Of the.Open ∷ Of the.Select ∷ items_words items (Of the.From ∷ source_words source_place.Source e (Of the.Close ∷ rest))
source_words place (Union e f) rest = within (takes_link place) (λ end. source_words source_place.Source e (Of the.Union ∷ source_words source_place.Term f end)) rest
source_words place (Next p e f) rest = within (takes_link place) (λ end. source_words source_place.Source e (Of the.Next ∷ condition_words p (source_words source_place.Term f end))) rest
source_words place (Fold p q aggs e f) rest = within (takes_link place) (λ end. source_words source_place.Source e (Of the.Fold ∷ Of the.BraceOpen ∷ pred_words pred_place.Pred p (Of the.Comma ∷ pred_words pred_place.Pred q (aggs_words aggs (Of the.BraceClose ∷ source_words source_place.Term f end))))) rest
