-- Scalars and predicates that take all of the symbols.
use Rattle.std.proofs.Common.{◌≡◌, ◌∙◌, ℕ, ◌+◌, ◌*◌, List, [], length, refl, sym, arith}
use Rattle.std.specs.Prelude.{Option}
use Rattle.cel_grammar.specs.Symbols.{Symbol}
use Rattle.cel_grammar.specs.Trees.{Pred, Scalar}
use Rattle.cel_grammar.specs.Laws.{OnePred, OneScalar}
use Rattle.cel_parser.specs.PredicateReader.{pred_at}
use Rattle.cel_parser.specs.ScalarReader.{done, scalar_at}
use Rattle.cel_parser.proofs.PredicateComplete.{pred_complete, pred_stays}
use Rattle.cel_parser.proofs.ScalarComplete.{scalar_complete, scalar_stays}
use Rattle.cel_parser.proofs.ScalarSound.{same}

-- two answers of one reader are one
both_read : {A : Type 0} (r a b : Option A) → r ≡ a → r ≡ b → a ≡ b
both_read r a b e f = sym e ∙ f

-- symbols spell at most one scalar
pub one_scalar : OneScalar
one_scalar ts x y h k =
    let m : ℕ = 8 * length ts + 8 in
    let a = scalar_complete h 1 m (x, []) tt (omega arith) (scalar_stays 0 x [] tt) in
    let b = scalar_complete k 1 m (y, []) tt (omega arith) (scalar_stays 0 y [] tt) in
    let P : Scalar → List Symbol → Type 0 = λ z ws. x ≡ z in
    same P x [] y [] (both_read (scalar_at m ts) (done x []) (done y []) a b) refl

-- symbols spell at most one predicate
pub one_pred : OnePred
one_pred ts p q h k =
    let m : ℕ = 8 * length ts + 8 in
    let a = pred_complete h 1 m (p, []) tt tt (omega arith) (pred_stays 0 p [] tt) in
    let b = pred_complete k 1 m (q, []) tt tt (omega arith) (pred_stays 0 q [] tt) in
    let P : Pred → List Symbol → Type 0 = λ z ws. p ≡ z in
    same P p [] q [] (both_read (pred_at m ts) (done p []) (done q []) a b) refl
