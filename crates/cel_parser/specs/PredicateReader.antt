-- Reading predicates from left to right, of which statements are read. The number bounds how deep the calls go.
use Rattle.std.specs.Prelude.{ℕ, zero, suc, List, ◌∷◌, None, if◌then◌else◌}
use Rattle.event_types.specs.declared.comparison.Cmp.{Cmp}
use Rattle.cel_grammar.specs.Symbols.{Symbol}
use Rattle.cel_grammar.specs.Symbols as the
use Rattle.cel_parser.specs.ScalarReader.{◌>>=◌, Read, done, close_at, scalar_at}
use Rattle.cel_grammar.specs.Parens.{holds_test}
use Rattle.cel_grammar.specs.Trees.{Pred, True, Test, And, Or, Not}

-- a comparison
abbrev pub compare_at : List Symbol → Read Cmp
compare_at (the.Compare c ∷ ts) = done c ts
compare_at ts = None

-- two scalars with a comparison between them
unfoldable pub test_at : ℕ → List Symbol → Read Pred
test_at n ts = scalar_at n ts >>= λ p. compare_at p.1 >>= λ c. scalar_at n c.1 >>= λ q. done (Test p.0 c.0 q.0) q.1

unfoldable mutual
  -- a predicate
  pub pred_at : ℕ → List Symbol → Read Pred
  pred_at zero ts = None
  pred_at (suc n) ts = conj_at n ts >>= λ p. pred_more n p.0 p.1

  -- a predicate that goes on after this one
  pub pred_more : ℕ → Pred → List Symbol → Read Pred
  pred_more zero p ts = None
  pred_more (suc n) p (the.Or ∷ ts) = conj_at n ts >>= λ q. pred_more n (Or p q.0) q.1
  pred_more (suc n) p ts = done p ts

  -- a conjunction
  pub conj_at : ℕ → List Symbol → Read Pred
  conj_at zero ts = None
  conj_at (suc n) ts = neg_at n ts >>= λ p. conj_more n p.0 p.1

  -- a conjunction that goes on after this one
  pub conj_more : ℕ → Pred → List Symbol → Read Pred
  conj_more zero p ts = None
  conj_more (suc n) p (the.And ∷ ts) = neg_at n ts >>= λ q. conj_more n (And p q.0) q.1
  conj_more (suc n) p ts = done p ts

  -- a negation, or what may stand in its place
  pub neg_at : ℕ → List Symbol → Read Pred
  neg_at zero ts = None
  neg_at (suc n) (the.Not ∷ ts) = neg_at n ts >>= λ p. done (Not p.0) p.1
  neg_at (suc n) ts = prim_at n ts

  -- TRUE, a comparison, or a predicate in parentheses
  pub prim_at : ℕ → List Symbol → Read Pred
  prim_at zero ts = None
  prim_at (suc n) (the.True ∷ ts) = done True ts
  prim_at (suc n) (the.Open ∷ ts) = if holds_test 0 ts then (pred_at n ts >>= λ p. close_at p.1 >>= done p.0) else test_at n (the.Open ∷ ts)
  prim_at (suc n) ts = test_at n ts
