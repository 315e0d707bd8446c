-- The texts of parts of statements. No public clause cites this module.
use Rattle.std.specs.Prelude.{ℕ, List, [], ◌∷◌, ◌++◌, codes}
use Rattle.std.specs.List.{flat_map}
use Rattle.event_types.specs.KindWord.{kind_word}
use Rattle.cel_grammar.specs.Trees.{Scalar, Pred, True, Item, Agg, Set, Source, Column, Col}
use Rattle.cel_print.specs.declared.places.PredPlace.{PredPlace}
use Rattle.cel_print.specs.declared.places.PredPlace.TheVariants as pred_place
use Rattle.cel_print.specs.declared.places.ScalarPlace.{ScalarPlace}
use Rattle.cel_print.specs.declared.places.SourcePlace.{SourcePlace}
use Rattle.cel_print.specs.ScalarWords.{scalar_words}
use Rattle.cel_print.specs.PredicateWords.{pred_words}
use Rattle.cel_print.specs.SourceWords.{named_words, item_words, source_words}
use Rattle.cel_print.specs.Spelled.{text_of}

-- the text of a scalar at a place
abbrev pub scalar_text : ScalarPlace → Scalar → List ℕ
scalar_text place x = text_of (scalar_words place x [])

-- the text of a predicate at a place
abbrev pub pred_text : PredPlace → Pred → List ℕ
pred_text place p = text_of (pred_words place p [])

-- the text of a scalar under a name
abbrev pub named_text : Scalar → List ℕ → List ℕ
named_text x name = text_of (named_words x name [])

-- the text of an item
abbrev pub item_text : Item → List ℕ
item_text i = text_of (item_words i [])

-- the text of items behind SELECT, its space included
abbrev pub items_text : List Item → List ℕ
items_text [] = []
items_text (i ∷ items) = codes " " ++ (item_text i ++ flat_map (λ j. codes ", " ++ item_text j) items)

-- the text of an aggregate behind what stands before it
abbrev pub agg_text : Agg → List ℕ
agg_text (Set x name) = codes ", " ++ named_text x name

-- the text of what NEXT has between itself and its second source
abbrev pub condition_text : Pred → List ℕ
condition_text True = []
condition_text p = codes "{" ++ (pred_text pred_place.Pred p ++ codes "} ")

-- the text of what FOLD has between itself and its second source
abbrev pub iteration_text : Pred → Pred → List Agg → List ℕ
iteration_text p q aggs = codes "{" ++ (pred_text pred_place.Pred p ++ (codes ", " ++ (pred_text pred_place.Pred q ++ (flat_map agg_text aggs ++ codes "} "))))

-- the text of a source at a place
abbrev pub source_text : SourcePlace → Source → List ℕ
source_text place e = text_of (source_words place e [])

-- the text of a declared attribute
abbrev pub column_text : Column → List ℕ
column_text (Col name k) = name ++ (codes " " ++ kind_word k)

-- the text of declared attributes
abbrev pub columns_text : List Column → List ℕ
columns_text [] = []
columns_text (column ∷ columns) = column_text column ++ flat_map (λ next. codes ", " ++ column_text next) columns
