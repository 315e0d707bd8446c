-- The text of predicates by their parts.
use Rattle.std.proofs.Common.{◌≡◌, ◌∷◌, ◌++◌, refl}
use Rattle.std.specs.Prelude.{codes}
use Rattle.event_types.specs.declared.comparison.Cmp.{Cmp}
use Rattle.cel_grammar.specs.Symbols as the
use Rattle.cel_grammar.specs.Trees.{Scalar, Pred, True, Test, And, Or, Not}
use Rattle.cel_print.specs.declared.places.PredPlace.{PredPlace}
use Rattle.cel_print.specs.declared.places.PredPlace.TheVariants as pred_place
use Rattle.cel_print.specs.declared.places.ScalarPlace.TheVariants as scalar_place
use Rattle.cel_print.specs.Words.{Of}
use Rattle.cel_print.specs.ScalarWords.{scalar_words}
use Rattle.cel_print.specs.PredicateWords.{takes_or, takes_and, pred_words}
use Rattle.cel_print.specs.Spelled.{spelling}
use Rattle.cel_print.specs.Parts.{scalar_text, pred_text}
use Rattle.cel_print.proofs.Spacing.{Front, own, whole, leaf, spaced, prefixed}
use Rattle.cel_print.proofs.TextScalars.{joined, operation, operation_text, scalar_front}

-- the text of a predicate at a place
abbrev FrontAt : PredPlace → Pred → Type 0
FrontAt place p = Front (pred_words place p) (pred_text place p)

-- a comparison
test_front : (place : PredPlace) (x : Scalar) (c : Cmp) (y : Scalar) → Front (pred_words place (Test x c y)) (scalar_text scalar_place.Scalar x ++ (codes " " ++ (spelling (the.Compare c) ++ (codes " " ++ scalar_text scalar_place.Scalar y))))
test_front place x c y = joined (the.Compare c) (scalar_words scalar_place.Scalar x) (scalar_words scalar_place.Scalar y) _ _ (record { free = refl; loose = λ right. refl }) (scalar_front scalar_place.Scalar x) (scalar_front scalar_place.Scalar y)

-- AND
and_front : (place : PredPlace) (p q : Pred) → FrontAt pred_place.Conj p → FrontAt pred_place.Neg q → Front (pred_words place (And p q)) (operation_text (takes_and place) (pred_text pred_place.Conj p) (codes " AND ") (pred_text pred_place.Neg q))
and_front place p q a b = operation (takes_and place) the.And (pred_words pred_place.Conj p) (pred_words pred_place.Neg q) _ _ (record { free = refl; loose = λ right. refl }) a b

-- OR
or_front : (place : PredPlace) (p q : Pred) → FrontAt pred_place.Pred p → FrontAt pred_place.Conj q → Front (pred_words place (Or p q)) (operation_text (takes_or place) (pred_text pred_place.Pred p) (codes " OR ") (pred_text pred_place.Conj q))
or_front place p q a b = operation (takes_or place) the.Or (pred_words pred_place.Pred p) (pred_words pred_place.Conj q) _ _ (record { free = refl; loose = λ right. refl }) a b

-- NOT
not_front : (place : PredPlace) (p : Pred) → FrontAt pred_place.Neg p → Front (pred_words place (Not p)) (codes "NOT " ++ pred_text pred_place.Neg p)
not_front place p a = prefixed (Of the.Not) (pred_words pred_place.Neg p) (codes " " ++ pred_text pred_place.Neg p) refl (record { free = refl; loose = λ right. refl }) (spaced (pred_words pred_place.Neg p) _ a)

-- by induction on the predicate
pub pred_front : (place : PredPlace) (p : Pred) → FrontAt place p
pred_front place True = own (λ r. Of the.True ∷ r) _ (leaf (Of the.True) refl (record { free = refl; loose = λ right. refl }))
pred_front place (Test x c y) = own (pred_words place (Test x c y)) _ (test_front place x c y)
pred_front place (And p q) = own (pred_words place (And p q)) _ (and_front place p q (pred_front pred_place.Conj p) (pred_front pred_place.Neg q))
pred_front place (Or p q) = own (pred_words place (Or p q)) _ (or_front place p q (pred_front pred_place.Pred p) (pred_front pred_place.Conj q))
pred_front place (Not p) = own (pred_words place (Not p)) _ (not_front place p (pred_front pred_place.Neg p))

-- a comparison
pub test_text : (place : PredPlace) (x : Scalar) (c : Cmp) (y : Scalar) → pred_text place (Test x c y) ≡ scalar_text scalar_place.Scalar x ++ (codes " " ++ (spelling (the.Compare c) ++ (codes " " ++ scalar_text scalar_place.Scalar y)))
test_text place x c y = whole (pred_words place (Test x c y)) _ (test_front place x c y)

-- AND
pub and_text : (place : PredPlace) (p q : Pred) → pred_text place (And p q) ≡ operation_text (takes_and place) (pred_text pred_place.Conj p) (codes " AND ") (pred_text pred_place.Neg q)
and_text place p q = whole (pred_words place (And p q)) _ (and_front place p q (pred_front pred_place.Conj p) (pred_front pred_place.Neg q))

-- OR
pub or_text : (place : PredPlace) (p q : Pred) → pred_text place (Or p q) ≡ operation_text (takes_or place) (pred_text pred_place.Pred p) (codes " OR ") (pred_text pred_place.Conj q)
or_text place p q = whole (pred_words place (Or p q)) _ (or_front place p q (pred_front pred_place.Pred p) (pred_front pred_place.Conj q))

-- NOT
pub not_text : (place : PredPlace) (p : Pred) → pred_text place (Not p) ≡ codes "NOT " ++ pred_text pred_place.Neg p
not_text place p = whole (pred_words place (Not p)) _ (not_front place p (pred_front pred_place.Neg p))
