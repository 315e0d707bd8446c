-- With more steps a reader gives what it gave.
use Rattle.std.proofs.Common.{◌≡◌, ℕ, zero, suc, ◌≤◌, Bool, true, false, List, ◌∷◌, arith}
use Rattle.std.specs.Prelude.{Option, Some, if◌then◌else◌}
use Rattle.cel_grammar.specs.Symbols.{Symbol}
use Rattle.cel_grammar.specs.Symbols as the
use Rattle.cel_parser.specs.ScalarReader.{scalar_at}
use Rattle.cel_parser.proofs.ScalarKeeps.{bind_keeps, scalar_keeps}
use Rattle.cel_grammar.specs.Parens.{holds_test}
use Rattle.cel_grammar.specs.Trees.{Pred, And, Or}
use Rattle.cel_parser.specs.PredicateReader.{compare_at, test_at, pred_at, pred_more, conj_at, conj_more, neg_at, prim_at}

-- more steps change nothing that was read
if_keeps : {A : Type 0} (b : Bool) (x x' y y' : Option A) (z : A) → (x ≡ Some z → x' ≡ Some z) → (y ≡ Some z → y' ≡ Some z) → (if b then x else y) ≡ Some z → (if b then x' else y') ≡ Some z
if_keeps true x x' y y' z h k e = h e
if_keeps false x x' y y' z h k e = k e

-- more steps change nothing that was read
pub test_keeps : (n m : ℕ) (ts : List Symbol) (z : Pred × List Symbol) → n ≤ m → test_at n ts ≡ Some z → test_at m ts ≡ Some z
unfolding test_at
test_keeps n m ts z h e =
    bind_keeps (scalar_at n ts) (scalar_at m ts) _ _ z (λ y. scalar_keeps n m ts y h)
    (λ p. bind_keeps (compare_at p.1) (compare_at p.1) _ _ z (λ y h. h)
    (λ c. bind_keeps (scalar_at n c.1) (scalar_at m c.1) _ _ z (λ y. scalar_keeps n m c.1 y h) (λ y h. h))) e

mutual
  unfolding pred_at

  -- more steps change nothing that was read
  pub pred_keeps : (n m : ℕ) (ts : List Symbol) (z : Pred × List Symbol) → n ≤ m → pred_at n ts ≡ Some z → pred_at m ts ≡ Some z
  pred_keeps zero m ts z h e = absurd cc
  pred_keeps (suc n) zero ts z h e = absurd (omega arith)
  pred_keeps (suc n) (suc m) ts z h e = bind_keeps (conj_at n ts) (conj_at m ts) _ _ z (λ y. conj_keeps n m ts y (omega arith)) (λ y. pred_more_keeps n m y.0 y.1 z (omega arith)) e

  -- more steps change nothing that was read
  pub pred_more_keeps : (n m : ℕ) (p : Pred) (ts : List Symbol) (z : Pred × List Symbol) → n ≤ m → pred_more n p ts ≡ Some z → pred_more m p ts ≡ Some z
  pred_more_keeps zero m p ts z h e = absurd cc
  pred_more_keeps (suc n) zero p ts z h e = absurd (omega arith)
  pred_more_keeps (suc n) (suc m) p (the.Or ∷ ts) z h e = bind_keeps (conj_at n ts) (conj_at m ts) _ _ z (λ y. conj_keeps n m ts y (omega arith)) (λ y. pred_more_keeps n m (Or p y.0) y.1 z (omega arith)) e
  pred_more_keeps (suc n) (suc m) p ts z h e = e

  -- more steps change nothing that was read
  pub conj_keeps : (n m : ℕ) (ts : List Symbol) (z : Pred × List Symbol) → n ≤ m → conj_at n ts ≡ Some z → conj_at m ts ≡ Some z
  conj_keeps zero m ts z h e = absurd cc
  conj_keeps (suc n) zero ts z h e = absurd (omega arith)
  conj_keeps (suc n) (suc m) ts z h e = bind_keeps (neg_at n ts) (neg_at m ts) _ _ z (λ y. neg_keeps n m ts y (omega arith)) (λ y. conj_more_keeps n m y.0 y.1 z (omega arith)) e

  -- more steps change nothing that was read
  pub conj_more_keeps : (n m : ℕ) (p : Pred) (ts : List Symbol) (z : Pred × List Symbol) → n ≤ m → conj_more n p ts ≡ Some z → conj_more m p ts ≡ Some z
  conj_more_keeps zero m p ts z h e = absurd cc
  conj_more_keeps (suc n) zero p ts z h e = absurd (omega arith)
  conj_more_keeps (suc n) (suc m) p (the.And ∷ ts) z h e = bind_keeps (neg_at n ts) (neg_at m ts) _ _ z (λ y. neg_keeps n m ts y (omega arith)) (λ y. conj_more_keeps n m (And p y.0) y.1 z (omega arith)) e
  conj_more_keeps (suc n) (suc m) p ts z h e = e

  -- more steps change nothing that was read
  pub neg_keeps : (n m : ℕ) (ts : List Symbol) (z : Pred × List Symbol) → n ≤ m → neg_at n ts ≡ Some z → neg_at m ts ≡ Some z
  neg_keeps zero m ts z h e = absurd cc
  neg_keeps (suc n) zero ts z h e = absurd (omega arith)
  neg_keeps (suc n) (suc m) (the.Not ∷ ts) z h e = bind_keeps (neg_at n ts) (neg_at m ts) _ _ z (λ y. neg_keeps n m ts y (omega arith)) (λ y h. h) e
  neg_keeps (suc n) (suc m) ts z h e = prim_keeps n m ts z (omega arith) e

  -- more steps change nothing that was read
  pub prim_keeps : (n m : ℕ) (ts : List Symbol) (z : Pred × List Symbol) → n ≤ m → prim_at n ts ≡ Some z → prim_at m ts ≡ Some z
  prim_keeps zero m ts z h e = absurd cc
  prim_keeps (suc n) zero ts z h e = absurd (omega arith)
  prim_keeps (suc n) (suc m) (the.True ∷ ts) z h e = e
  prim_keeps (suc n) (suc m) (the.Open ∷ ts) z h e =
      if_keeps (holds_test 0 ts) _ _ _ _ z
      (bind_keeps (pred_at n ts) (pred_at m ts) _ _ z (λ y. pred_keeps n m ts y (omega arith)) (λ y h. h))
      (test_keeps n m (the.Open ∷ ts) z (omega arith)) e
  prim_keeps (suc n) (suc m) ts z h e = test_keeps n m ts z (omega arith) e
