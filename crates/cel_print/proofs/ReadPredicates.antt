-- The canonical symbols of a predicate are read as it.
use Rattle.std.proofs.Common.{List, ◌∷◌}
use Rattle.cel_grammar.specs.Symbols as the
use Rattle.cel_grammar.specs.Trees.{Pred, True, Test, And, Or, Not}
use Rattle.cel_grammar.specs.Predicates.{IsPred, conj, or, IsConj, neg, and, IsNeg, not, prim, true, test, group}
use Rattle.cel_print.specs.declared.places.ScalarPlace.TheVariants as scalar_place
use Rattle.cel_print.specs.declared.places.PredPlace.TheVariants as pred_place
use Rattle.cel_print.specs.Words.{Word, Of, symbols}
use Rattle.cel_print.specs.ScalarWords.{scalar_words}
use Rattle.cel_print.specs.PredicateWords.{pred_words}
use Rattle.cel_print.proofs.ReadScalars as scalars

-- the words at each place are what the rule wants there
pub record Reads (p : Pred) (rest : List Word) : Type 0 where
  pub pred : IsPred (symbols (pred_words pred_place.Pred p rest)) p (symbols rest)
  pub conj : IsConj (symbols (pred_words pred_place.Conj p rest)) p (symbols rest)
  pub neg : IsNeg (symbols (pred_words pred_place.Neg p rest)) p (symbols rest)

-- what a negation reads as, it reads as at each place
as_neg : (p : Pred) (rest : List Word) → IsNeg (symbols (pred_words pred_place.Pred p rest)) p (symbols rest) → IsNeg (symbols (pred_words pred_place.Conj p rest)) p (symbols rest) → IsNeg (symbols (pred_words pred_place.Neg p rest)) p (symbols rest) → Reads p rest
as_neg p rest a b c = record { pred = conj (neg a); conj = neg b; neg = c }

-- by induction on the predicate
pub reads : (p : Pred) (rest : List Word) → Reads p rest
reads True rest = as_neg True rest (prim true) (prim true) (prim true)
reads (Test x c y) rest =
    let it = test (scalars.reads x (Of (the.Compare c) ∷ scalar_words scalar_place.Scalar y rest)).scalar (scalars.reads y rest).scalar in
    as_neg (Test x c y) rest (prim it) (prim it) (prim it)
reads (And p q) rest =
    let there = and (reads p (Of the.And ∷ pred_words pred_place.Neg q rest)).conj (reads q rest).neg in
    let inside = and (reads p (Of the.And ∷ pred_words pred_place.Neg q (Of the.Close ∷ rest))).conj (reads q (Of the.Close ∷ rest)).neg in
    record { pred = conj there; conj = there; neg = prim (group (conj inside)) }
reads (Or p q) rest =
    let inside = or (reads p (Of the.Or ∷ pred_words pred_place.Conj q (Of the.Close ∷ rest))).pred (reads q (Of the.Close ∷ rest)).conj in
    record { pred = or (reads p (Of the.Or ∷ pred_words pred_place.Conj q rest)).pred (reads q rest).conj; conj = neg (prim (group inside)); neg = prim (group inside) }
reads (Not p) rest = let it = not (reads p rest).neg in as_neg (Not p) rest it it it
