-- What is read is in the grammar.
use Rattle.std.proofs.Common.{◌≡◌, ℕ, zero, suc, ◌≤◌, Bool, List, [], ◌∷◌, refl, arith}
use Rattle.std.specs.Prelude.{Option, Some, if◌then◌else◌}
use Rattle.event_types.specs.declared.comparison.Cmp.{Cmp}
use Rattle.cel_grammar.specs.Symbols.{Symbol}
use Rattle.cel_grammar.specs.Symbols as the
use Rattle.cel_grammar.specs.Scalars.{IsScalar}
use Rattle.cel_grammar.specs.Trees.{Scalar}
use Rattle.cel_parser.specs.ScalarReader.{◌>>=◌, done, close_at, scalar_at}
use Rattle.cel_parser.proofs.ScalarSound.{bind_some, same, scalar_sound}
use Rattle.cel_grammar.specs.Parens.{holds_test}
use Rattle.cel_grammar.specs.Trees.{Pred, True, Test, And, Or, Not}
use Rattle.cel_grammar.specs.Predicates.{IsPred, conj, or, IsConj, neg, and, IsNeg, not, prim, IsPrim, true, test, group}
use Rattle.cel_parser.specs.PredicateReader.{compare_at, test_at, pred_at, pred_more, conj_at, conj_more, neg_at, prim_at}
use Rattle.std.proofs.Common as common

-- one of two readers read it
either : {A : Type 0} (b : Bool) (x y : Option A) (z : A) (P : Type 0) → (x ≡ Some z → P) → (y ≡ Some z → P) → (if b then x else y) ≡ Some z → P
either common.true x y z P h k e = h e
either common.false x y z P h k e = k e

-- it begins with no symbol that a predicate goes on with
test_end : (ts vs : List Symbol) (x : Scalar) (c : Cmp) (us : List Symbol) (y : Scalar) (rest : List Symbol) (p : Pred) (last : List Symbol) → IsScalar ts x vs → compare_at vs ≡ done c us → IsScalar us y rest → done (Test x c y) rest ≡ done p last → IsPrim ts p last
test_end ts (the.Compare d ∷ ws) x c us y rest p last h e k e2 =
    let P : Cmp → List Symbol → Type 0 = λ b vs. IsScalar ts x (the.Compare b ∷ vs) in
    same (IsPrim ts) (Test x c y) rest p last e2 (test (same P d ws c us e h) k)
test_end ts vs x c us y rest p last h e k e2 = absurd cc

-- what is read is in the grammar
test_sound : (n : ℕ) (ts : List Symbol) (p : Pred) (rest : List Symbol) → test_at n ts ≡ Some (p, rest) → IsPrim ts p rest
unfolding test_at
test_sound n ts p rest e =
    let a = bind_some (scalar_at n ts) _ (p, rest) e in
    let b = bind_some (compare_at a.0.1) _ (p, rest) a.2 in
    let c = bind_some (scalar_at n b.0.1) _ (p, rest) b.2 in
    test_end ts a.0.1 a.0.0 b.0.0 b.0.1 c.0.0 c.0.1 p rest (scalar_sound n ts a.0.0 a.0.1 a.1) b.1 (scalar_sound n b.0.1 c.0.0 c.0.1 c.1) c.2

-- what is read is in the grammar
group_sound : (ts vs : List Symbol) (x : Pred) (y : Pred) (rest : List Symbol) → IsPred ts x vs → (close_at vs >>= done x) ≡ done y rest → IsPrim (the.Open ∷ ts) y rest
group_sound ts (the.Close ∷ us) x y rest h e = same (IsPrim (the.Open ∷ ts)) x us y rest e (group h)
group_sound ts vs x y rest h e = absurd cc

mutual
  unfolding pred_at

  -- what is read is in the grammar
  pub pred_sound : (n : ℕ) (ts : List Symbol) (x : Pred) (rest : List Symbol) → pred_at n ts ≡ Some (x, rest) → IsPred ts x rest
  pred_sound zero ts x rest e = absurd cc
  pred_sound (suc n) ts x rest e =
      let s = bind_some (conj_at n ts) (λ p. pred_more n p.0 p.1) (x, rest) e in
      pred_more_sound n ts s.0.0 s.0.1 x rest (conj (conj_sound n ts s.0.0 s.0.1 s.1)) s.2

  -- what is read is in the grammar
  pub pred_more_sound : (n : ℕ) (front : List Symbol) (x : Pred) (ts : List Symbol) (y : Pred) (rest : List Symbol) → IsPred front x ts → pred_more n x ts ≡ Some (y, rest) → IsPred front y rest
  pred_more_sound zero front x ts y rest h e = absurd cc
  pred_more_sound (suc n) front x (the.Or ∷ ts) y rest h e =
      let s = bind_some (conj_at n ts) (λ p. pred_more n (Or x p.0) p.1) (y, rest) e in
      pred_more_sound n front (Or x s.0.0) s.0.1 y rest (or h (conj_sound n ts s.0.0 s.0.1 s.1)) s.2
  pred_more_sound (suc n) front x ts y rest h e = same (IsPred front) x ts y rest e h

  -- what is read is in the grammar
  pub conj_sound : (n : ℕ) (ts : List Symbol) (x : Pred) (rest : List Symbol) → conj_at n ts ≡ Some (x, rest) → IsConj ts x rest
  conj_sound zero ts x rest e = absurd cc
  conj_sound (suc n) ts x rest e =
      let s = bind_some (neg_at n ts) (λ p. conj_more n p.0 p.1) (x, rest) e in
      conj_more_sound n ts s.0.0 s.0.1 x rest (neg (neg_sound n ts s.0.0 s.0.1 s.1)) s.2

  -- what is read is in the grammar
  pub conj_more_sound : (n : ℕ) (front : List Symbol) (x : Pred) (ts : List Symbol) (y : Pred) (rest : List Symbol) → IsConj front x ts → conj_more n x ts ≡ Some (y, rest) → IsConj front y rest
  conj_more_sound zero front x ts y rest h e = absurd cc
  conj_more_sound (suc n) front x (the.And ∷ ts) y rest h e =
      let s = bind_some (neg_at n ts) (λ p. conj_more n (And x p.0) p.1) (y, rest) e in
      conj_more_sound n front (And x s.0.0) s.0.1 y rest (and h (neg_sound n ts s.0.0 s.0.1 s.1)) s.2
  conj_more_sound (suc n) front x ts y rest h e = same (IsConj front) x ts y rest e h

  -- what is read is in the grammar
  pub neg_sound : (n : ℕ) (ts : List Symbol) (x : Pred) (rest : List Symbol) → neg_at n ts ≡ Some (x, rest) → IsNeg ts x rest
  neg_sound zero ts x rest e = absurd cc
  neg_sound (suc n) (the.Not ∷ ts) x rest e =
      let s = bind_some (neg_at n ts) (λ p. done (Not p.0) p.1) (x, rest) e in
      same (IsNeg (the.Not ∷ ts)) (Not s.0.0) s.0.1 x rest s.2 (not (neg_sound n ts s.0.0 s.0.1 s.1))
  neg_sound (suc n) ts x rest e = prim (prim_sound n ts x rest e)

  -- what is read is in the grammar
  pub prim_sound : (n : ℕ) (ts : List Symbol) (x : Pred) (rest : List Symbol) → prim_at n ts ≡ Some (x, rest) → IsPrim ts x rest
  prim_sound zero ts x rest e = absurd cc
  prim_sound (suc n) (the.True ∷ ts) x rest e = same (IsPrim (the.True ∷ ts)) True ts x rest e true
  prim_sound (suc n) (the.Open ∷ ts) x rest e =
      either (holds_test 0 ts) _ _ (x, rest) (IsPrim (the.Open ∷ ts) x rest)
      (λ e. let s = bind_some (pred_at n ts) (λ p. close_at p.1 >>= done p.0) (x, rest) e in
      group_sound ts s.0.1 s.0.0 x rest (pred_sound n ts s.0.0 s.0.1 s.1) s.2)
      (test_sound n (the.Open ∷ ts) x rest) e
  prim_sound (suc n) ts x rest e = test_sound n ts x rest e
