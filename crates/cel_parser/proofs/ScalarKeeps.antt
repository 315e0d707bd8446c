-- With more steps a reader gives what it gave.
use Rattle.std.proofs.Common.{◌≡◌, ℕ, zero, suc, ◌≤◌, List, ◌∷◌, refl, arith}
use Rattle.std.specs.Prelude.{Option, Some, None}
use Rattle.cel_grammar.specs.Symbols.{Symbol}
use Rattle.cel_grammar.specs.Symbols as the
use Rattle.cel_grammar.specs.Trees.{Op, Add, Sub, Mul, Min, Max, Scalar, Two}
use Rattle.cel_parser.specs.ScalarReader.{◌>>=◌, open_at, comma_at, scalar_at, scalar_more, product_at, product_more, factor_at, both_at}

-- more steps change nothing that was read
pub bind_keeps : {A B : Type 0} (a b : Option A) (f g : A → Option B) (z : B) → ((y : A) → a ≡ Some y → b ≡ Some y) → ((y : A) → f y ≡ Some z → g y ≡ Some z) → (a >>= f) ≡ Some z → (b >>= g) ≡ Some z
bind_keeps None b f g z h k e = absurd cc
bind_keeps (Some y) b f g z h k e = rw (h y refl) (k y e)

mutual
  unfolding scalar_at

  -- more steps change nothing that was read
  pub scalar_keeps : (n m : ℕ) (ts : List Symbol) (z : Scalar × List Symbol) → n ≤ m → scalar_at n ts ≡ Some z → scalar_at m ts ≡ Some z
  scalar_keeps zero m ts z h e = absurd cc
  scalar_keeps (suc n) zero ts z h e = absurd (omega arith)
  scalar_keeps (suc n) (suc m) ts z h e = bind_keeps (product_at n ts) (product_at m ts) _ _ z (λ y. product_keeps n m ts y (omega arith)) (λ y. scalar_more_keeps n m y.0 y.1 z (omega arith)) e

  -- more steps change nothing that was read
  pub scalar_more_keeps : (n m : ℕ) (x : Scalar) (ts : List Symbol) (z : Scalar × List Symbol) → n ≤ m → scalar_more n x ts ≡ Some z → scalar_more m x ts ≡ Some z
  scalar_more_keeps zero m x ts z h e = absurd cc
  scalar_more_keeps (suc n) zero x ts z h e = absurd (omega arith)
  scalar_more_keeps (suc n) (suc m) x (the.Plus ∷ ts) z h e = bind_keeps (product_at n ts) (product_at m ts) _ _ z (λ y. product_keeps n m ts y (omega arith)) (λ y. scalar_more_keeps n m (Two Add x y.0) y.1 z (omega arith)) e
  scalar_more_keeps (suc n) (suc m) x (the.Minus ∷ ts) z h e = bind_keeps (product_at n ts) (product_at m ts) _ _ z (λ y. product_keeps n m ts y (omega arith)) (λ y. scalar_more_keeps n m (Two Sub x y.0) y.1 z (omega arith)) e
  scalar_more_keeps (suc n) (suc m) x ts z h e = e

  -- more steps change nothing that was read
  pub product_keeps : (n m : ℕ) (ts : List Symbol) (z : Scalar × List Symbol) → n ≤ m → product_at n ts ≡ Some z → product_at m ts ≡ Some z
  product_keeps zero m ts z h e = absurd cc
  product_keeps (suc n) zero ts z h e = absurd (omega arith)
  product_keeps (suc n) (suc m) ts z h e = bind_keeps (factor_at n ts) (factor_at m ts) _ _ z (λ y. factor_keeps n m ts y (omega arith)) (λ y. product_more_keeps n m y.0 y.1 z (omega arith)) e

  -- more steps change nothing that was read
  pub product_more_keeps : (n m : ℕ) (x : Scalar) (ts : List Symbol) (z : Scalar × List Symbol) → n ≤ m → product_more n x ts ≡ Some z → product_more m x ts ≡ Some z
  product_more_keeps zero m x ts z h e = absurd cc
  product_more_keeps (suc n) zero x ts z h e = absurd (omega arith)
  product_more_keeps (suc n) (suc m) x (the.Star ∷ ts) z h e = bind_keeps (factor_at n ts) (factor_at m ts) _ _ z (λ y. factor_keeps n m ts y (omega arith)) (λ y. product_more_keeps n m (Two Mul x y.0) y.1 z (omega arith)) e
  product_more_keeps (suc n) (suc m) x ts z h e = e

  -- more steps change nothing that was read
  pub factor_keeps : (n m : ℕ) (ts : List Symbol) (z : Scalar × List Symbol) → n ≤ m → factor_at n ts ≡ Some z → factor_at m ts ≡ Some z
  factor_keeps zero m ts z h e = absurd cc
  factor_keeps (suc n) zero ts z h e = absurd (omega arith)
  factor_keeps (suc n) (suc m) (the.Min ∷ ts) z h e = both_keeps n m Min ts z (omega arith) e
  factor_keeps (suc n) (suc m) (the.Max ∷ ts) z h e = both_keeps n m Max ts z (omega arith) e
  factor_keeps (suc n) (suc m) (the.Open ∷ ts) z h e = bind_keeps (scalar_at n ts) (scalar_at m ts) _ _ z (λ y. scalar_keeps n m ts y (omega arith)) (λ y h. h) e
  factor_keeps (suc n) (suc m) ts z h e = e

  -- more steps change nothing that was read
  pub both_keeps : (n m : ℕ) (o : Op) (ts : List Symbol) (z : Scalar × List Symbol) → n ≤ m → both_at n o ts ≡ Some z → both_at m o ts ≡ Some z
  both_keeps zero m o ts z h e = absurd cc
  both_keeps (suc n) zero o ts z h e = absurd (omega arith)
  both_keeps (suc n) (suc m) o ts z h e =
      bind_keeps (open_at ts) (open_at ts) _ _ z (λ y h. h)
      (λ us. bind_keeps (scalar_at n us) (scalar_at m us) _ _ z (λ y. scalar_keeps n m us y (omega arith))
      (λ p. bind_keeps (comma_at p.1) (comma_at p.1) _ _ z (λ y h. h)
      (λ vs. bind_keeps (scalar_at n vs) (scalar_at m vs) _ _ z (λ y. scalar_keeps n m vs y (omega arith)) (λ y h. h)))) e
