-- The canonical words of predicates. Parentheses stand exactly where another predicate would be read without them.
use Rattle.std.specs.Prelude.{Bool, true, false, List, ◌∷◌}
use Rattle.cel_grammar.specs.Symbols as the
use Rattle.cel_grammar.specs.Trees.{Pred, True, Test, And, Or, Not}
use Rattle.cel_print.specs.declared.places.ScalarPlace.TheVariants as scalar_place
use Rattle.cel_print.specs.declared.places.PredPlace.TheVariants as pred_place
use Rattle.cel_print.specs.declared.places.PredPlace.{PredPlace}
use Rattle.cel_print.specs.Words.{Word, Of, within}
use Rattle.cel_print.specs.ScalarWords.{scalar_words}

-- an OR may stand there as it is
abbrev pub takes_or : PredPlace → Bool
takes_or pred_place.Pred = true
takes_or pred_place.Conj = false
takes_or pred_place.Neg = false

-- an AND may stand there as it is
abbrev pub takes_and : PredPlace → Bool
takes_and pred_place.Pred = true
takes_and pred_place.Conj = true
takes_and pred_place.Neg = false

-- a predicate at this place, and then rest
abbrev pub pred_words : PredPlace → Pred → List Word → List Word
pred_words place True rest = Of the.True ∷ rest
pred_words place (Test x c y) rest = scalar_words scalar_place.Scalar x (Of (the.Compare c) ∷ scalar_words scalar_place.Scalar y rest)
pred_words place (And p q) rest = within (takes_and place) (λ end. pred_words pred_place.Conj p (Of the.And ∷ pred_words pred_place.Neg q end)) rest
pred_words place (Or p q) rest = within (takes_or place) (λ end. pred_words pred_place.Pred p (Of the.Or ∷ pred_words pred_place.Conj q end)) rest
pred_words place (Not p) rest = Of the.Not ∷ pred_words pred_place.Neg p rest
