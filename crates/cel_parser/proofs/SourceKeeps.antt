-- With more steps a reader gives what it gave.
use Rattle.std.proofs.Common.{◌≡◌, ℕ, zero, suc, ◌≤◌, List, ◌∷◌, arith}
use Rattle.std.specs.Prelude.{Option, Some}
use Rattle.cel_grammar.specs.Symbols.{Symbol}
use Rattle.cel_grammar.specs.Symbols as the
use Rattle.cel_parser.specs.ScalarReader.{◌>>=◌, comma_at, scalar_at}
use Rattle.cel_parser.proofs.ScalarKeeps.{bind_keeps, scalar_keeps}
use Rattle.cel_grammar.specs.Trees.{True}
use Rattle.cel_parser.specs.PredicateReader.{pred_at}
use Rattle.cel_parser.proofs.PredicateKeeps.{pred_keeps}
use Rattle.cel_grammar.specs.Trees.{Item, Agg, Source, Union, Next, Fold}
use Rattle.cel_parser.specs.SourceReader.{from_at, brace_at, as_at, named_at, item_at, items_at, items_more, aggs_at, source_at, source_more, term_at}

-- a step that takes no steps is kept
pub step_keeps : {A B : Type 0} (a : Option A) (f g : A → Option B) (z : B) → ((y : A) → f y ≡ Some z → g y ≡ Some z) → (a >>= f) ≡ Some z → (a >>= g) ≡ Some z
step_keeps a f g z k e = bind_keeps a a f g z (λ y h. h) k e

-- more steps change nothing that was read
named_keeps : (n m : ℕ) (ts : List Symbol) (z : Item × List Symbol) → n ≤ m → named_at n ts ≡ Some z → named_at m ts ≡ Some z
unfolding named_at
named_keeps n m ts z h e = bind_keeps (scalar_at n ts) (scalar_at m ts) _ _ z (λ y. scalar_keeps n m ts y h) (λ y k. k) e

-- more steps change nothing that was read
pub item_keeps : (n m : ℕ) (ts : List Symbol) (z : Item × List Symbol) → n ≤ m → item_at n ts ≡ Some z → item_at m ts ≡ Some z
unfolding item_at
item_keeps n m (the.Star ∷ ts) z h e = e
item_keeps n m (the.Name a ∷ the.Comma ∷ ts) z h e = e
item_keeps n m (the.Name a ∷ the.From ∷ ts) z h e = e
item_keeps n m ts z h e = named_keeps n m ts z h e

mutual
  unfolding items_at

  -- more steps change nothing that was read
  pub items_keeps : (n m : ℕ) (ts : List Symbol) (z : List Item × List Symbol) → n ≤ m → items_at n ts ≡ Some z → items_at m ts ≡ Some z
  items_keeps zero m ts z h e = absurd cc
  items_keeps (suc n) zero ts z h e = absurd (omega arith)
  items_keeps (suc n) (suc m) ts z h e = bind_keeps (item_at n ts) (item_at m ts) _ _ z (λ y. item_keeps n m ts y (omega arith)) (λ y. items_more_keeps n m y.0 y.1 z (omega arith)) e

  -- more steps change nothing that was read
  pub items_more_keeps : (n m : ℕ) (i : Item) (ts : List Symbol) (z : List Item × List Symbol) → n ≤ m → items_more n i ts ≡ Some z → items_more m i ts ≡ Some z
  items_more_keeps zero m i ts z h e = absurd cc
  items_more_keeps (suc n) zero i ts z h e = absurd (omega arith)
  items_more_keeps (suc n) (suc m) i (the.Comma ∷ ts) z h e = bind_keeps (items_at n ts) (items_at m ts) _ _ z (λ y. items_keeps n m ts y (omega arith)) (λ y k. k) e
  items_more_keeps (suc n) (suc m) i ts z h e = e

-- more steps change nothing that was read
pub aggs_keeps : (n m : ℕ) (ts : List Symbol) (z : List Agg × List Symbol) → n ≤ m → aggs_at n ts ≡ Some z → aggs_at m ts ≡ Some z
unfolding aggs_at
aggs_keeps zero m ts z h e = absurd cc
aggs_keeps (suc n) zero ts z h e = absurd (omega arith)
aggs_keeps (suc n) (suc m) (the.Comma ∷ ts) z h e =
    bind_keeps (scalar_at n ts) (scalar_at m ts) _ _ z (λ y. scalar_keeps n m ts y (omega arith))
    (λ p. step_keeps (as_at p.1) _ _ z
    (λ a. bind_keeps (aggs_at n a.1) (aggs_at m a.1) _ _ z (λ y. aggs_keeps n m a.1 y (omega arith)) (λ y k. k))) e
aggs_keeps (suc n) (suc m) ts z h e = e

mutual
  unfolding source_at

  -- more steps change nothing that was read
  pub source_keeps : (n m : ℕ) (ts : List Symbol) (z : Source × List Symbol) → n ≤ m → source_at n ts ≡ Some z → source_at m ts ≡ Some z
  source_keeps zero m ts z h e = absurd cc
  source_keeps (suc n) zero ts z h e = absurd (omega arith)
  source_keeps (suc n) (suc m) ts z h e = bind_keeps (term_at n ts) (term_at m ts) _ _ z (λ y. term_keeps n m ts y (omega arith)) (λ y. source_more_keeps n m y.0 y.1 z (omega arith)) e

  -- more steps change nothing that was read
  pub source_more_keeps : (n m : ℕ) (x : Source) (ts : List Symbol) (z : Source × List Symbol) → n ≤ m → source_more n x ts ≡ Some z → source_more m x ts ≡ Some z
  source_more_keeps zero m x ts z h e = absurd cc
  source_more_keeps (suc n) zero x ts z h e = absurd (omega arith)
  source_more_keeps (suc n) (suc m) x (the.Union ∷ ts) z h e = bind_keeps (term_at n ts) (term_at m ts) _ _ z (λ y. term_keeps n m ts y (omega arith)) (λ y. source_more_keeps n m (Union x y.0) y.1 z (omega arith)) e
  source_more_keeps (suc n) (suc m) x (the.Next ∷ the.BraceOpen ∷ ts) z h e =
      bind_keeps (pred_at n ts) (pred_at m ts) _ _ z (λ y. pred_keeps n m ts y (omega arith))
      (λ p. step_keeps (brace_at p.1) _ _ z
      (λ us. bind_keeps (term_at n us) (term_at m us) _ _ z (λ y. term_keeps n m us y (omega arith)) (λ y. source_more_keeps n m (Next p.0 x y.0) y.1 z (omega arith)))) e
  source_more_keeps (suc n) (suc m) x (the.Next ∷ ts) z h e = bind_keeps (term_at n ts) (term_at m ts) _ _ z (λ y. term_keeps n m ts y (omega arith)) (λ y. source_more_keeps n m (Next True x y.0) y.1 z (omega arith)) e
  source_more_keeps (suc n) (suc m) x (the.Fold ∷ the.BraceOpen ∷ ts) z h e =
      bind_keeps (pred_at n ts) (pred_at m ts) _ _ z (λ y. pred_keeps n m ts y (omega arith))
      (λ p. step_keeps (comma_at p.1) _ _ z
      (λ us. bind_keeps (pred_at n us) (pred_at m us) _ _ z (λ y. pred_keeps n m us y (omega arith))
      (λ q. bind_keeps (aggs_at n q.1) (aggs_at m q.1) _ _ z (λ y. aggs_keeps n m q.1 y (omega arith))
      (λ sets. step_keeps (brace_at sets.1) _ _ z
      (λ vs. bind_keeps (term_at n vs) (term_at m vs) _ _ z (λ y. term_keeps n m vs y (omega arith)) (λ y. source_more_keeps n m (Fold p.0 q.0 sets.0 x y.0) y.1 z (omega arith))))))) e
  source_more_keeps (suc n) (suc m) x ts z h e = e

  -- more steps change nothing that was read
  pub term_keeps : (n m : ℕ) (ts : List Symbol) (z : Source × List Symbol) → n ≤ m → term_at n ts ≡ Some z → term_at m ts ≡ Some z
  term_keeps zero m ts z h e = absurd cc
  term_keeps (suc n) zero ts z h e = absurd (omega arith)
  term_keeps (suc n) (suc m) (the.Name a ∷ ts) z h e = e
  term_keeps (suc n) (suc m) (the.Open ∷ the.Select ∷ ts) z h e =
      bind_keeps (items_at n ts) (items_at m ts) _ _ z (λ y. items_keeps n m ts y (omega arith))
      (λ is. step_keeps (from_at is.1) _ _ z
      (λ us. bind_keeps (source_at n us) (source_at m us) _ _ z (λ y. source_keeps n m us y (omega arith)) (λ y k. k))) e
  term_keeps (suc n) (suc m) (the.Open ∷ ts) z h e = bind_keeps (source_at n ts) (source_at m ts) _ _ z (λ y. source_keeps n m ts y (omega arith)) (λ y k. k) e
  term_keeps (suc n) (suc m) (the.Filter ∷ the.BraceOpen ∷ ts) z h e =
      bind_keeps (pred_at n ts) (pred_at m ts) _ _ z (λ y. pred_keeps n m ts y (omega arith))
      (λ p. step_keeps (brace_at p.1) _ _ z
      (λ us. bind_keeps (term_at n us) (term_at m us) _ _ z (λ y. term_keeps n m us y (omega arith)) (λ y k. k))) e
  term_keeps (suc n) (suc m) ts z h e = e
