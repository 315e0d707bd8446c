-- What is in the grammar is read.
use Rattle.std.proofs.Common.{◌≡◌, ◌∙◌, ℕ, zero, suc, ◌+◌, ◌-◌, ◌*◌, ◌<◌, ◌≤◌, List, [], ◌∷◌, length, refl, arith}
use Rattle.std.proofs.Common as common
use Rattle.std.specs.Prelude.{Some}
use Rattle.event_types.specs.declared.comparison.Cmp.{Cmp}
use Rattle.cel_grammar.specs.Symbols.{Symbol}
use Rattle.cel_grammar.specs.Symbols as the
use Rattle.cel_grammar.specs.Trees.{Scalar}
use Rattle.cel_grammar.specs.Scalars.{IsAttribute, bare, of_first, of_second, of_so, IsScalar, product, sum, difference, IsProduct, factor, times, IsFactor, number, less, decimal, less_decimal, text, attribute, dur, least, greatest}
use Rattle.cel_grammar.specs.Scalars as scalar
use Rattle.cel_parser.specs.ScalarReader.{scalar_at}
use Rattle.cel_parser.proofs.ScalarComplete.{NotOperator, operator_star, scalar_complete, scalar_shorter, scalar_stays}
use Rattle.cel_grammar.specs.Parens.{holds_test}
use Rattle.cel_grammar.specs.Trees.{Pred, Test, And, Or}
use Rattle.cel_grammar.specs.Predicates.{IsPred, conj, or, IsConj, neg, and, IsNeg, not, prim, IsPrim, true, test, group}
use Rattle.cel_parser.specs.PredicateReader.{test_at, pred_at, pred_more, conj_at, conj_more, neg_at, prim_at}
use Rattle.cel_parser.proofs.PredicateKeeps.{pred_more_keeps, conj_more_keeps}

-- no conjunction goes on here
-- no conjunction goes on here
abbrev pub NotAnd : List Symbol → Type 0
NotAnd (the.And ∷ ts) = ⊥
NotAnd ts = Unit {0}

-- no predicate goes on here
abbrev pub NotOr : List Symbol → Type 0
NotOr (the.Or ∷ ts) = ⊥
NotOr ts = Unit {0}

-- what cannot go on here stays as it is
pub conj_stays : (n : ℕ) (p : Pred) (ts : List Symbol) → NotAnd ts → conj_more (suc n) p ts ≡ Some (p, ts)
unfolding conj_more
conj_stays n p (the.And ∷ ts) h = absurd h
conj_stays n p ts h = refl

-- what cannot go on here stays as it is
pub pred_stays : (n : ℕ) (p : Pred) (ts : List Symbol) → NotOr ts → pred_more (suc n) p ts ≡ Some (p, ts)
unfolding pred_more
pred_stays n p (the.Or ∷ ts) h = absurd h
pred_stays n p ts h = refl

-- a scalar holds no test
attribute_plain : {ts rest : List Symbol} {x : Scalar} → IsAttribute ts x rest → (d : ℕ) → holds_test d ts ≡ holds_test d rest
attribute_plain bare d = refl
attribute_plain of_first d = refl
attribute_plain of_second d = refl
attribute_plain of_so d = refl

mutual
  -- it holds no test
  pub scalar_plain : {ts rest : List Symbol} {x : Scalar} → IsScalar ts x rest → (d : ℕ) → holds_test d ts ≡ holds_test d rest
  scalar_plain (product a) d = product_plain a d
  scalar_plain (sum a b) d = scalar_plain a d ∙ product_plain b d
  scalar_plain (difference a b) d = scalar_plain a d ∙ product_plain b d

  -- it holds no test
  product_plain : {ts rest : List Symbol} {x : Scalar} → IsProduct ts x rest → (d : ℕ) → holds_test d ts ≡ holds_test d rest
  product_plain (factor a) d = factor_plain a d
  product_plain (times a b) d = product_plain a d ∙ factor_plain b d

  -- it holds no test
  factor_plain : {ts rest : List Symbol} {x : Scalar} → IsFactor ts x rest → (d : ℕ) → holds_test d ts ≡ holds_test d rest
  factor_plain number d = refl
  factor_plain less d = refl
  factor_plain decimal d = refl
  factor_plain less_decimal d = refl
  factor_plain text d = refl
  factor_plain (attribute a) d = attribute_plain a d
  factor_plain dur d = refl
  factor_plain (least a b) d = scalar_plain a (suc d) ∙ scalar_plain b (suc d)
  factor_plain (greatest a b) d = scalar_plain a (suc d) ∙ scalar_plain b (suc d)
  factor_plain (scalar.group a) d = scalar_plain a (suc d)

-- a predicate holds one
mutual
  -- it holds a test
  pub pred_tests : {ts rest : List Symbol} {p : Pred} → IsPred ts p rest → (d : ℕ) → holds_test d ts ≡ common.true
  pred_tests (conj a) d = conj_tests a d
  pred_tests (or a b) d = pred_tests a d

  -- it holds a test
  conj_tests : {ts rest : List Symbol} {p : Pred} → IsConj ts p rest → (d : ℕ) → holds_test d ts ≡ common.true
  conj_tests (neg a) d = neg_tests a d
  conj_tests (and a b) d = conj_tests a d

  -- it holds a test
  neg_tests : {ts rest : List Symbol} {p : Pred} → IsNeg ts p rest → (d : ℕ) → holds_test d ts ≡ common.true
  neg_tests (not a) d = refl
  neg_tests (prim a) d = prim_tests a d

  -- it holds a test
  prim_tests : {ts rest : List Symbol} {p : Pred} → IsPrim ts p rest → (d : ℕ) → holds_test d ts ≡ common.true
  prim_tests true d = refl
  prim_tests (test a b) d = scalar_plain a d
  prim_tests (group a) d = pred_tests a (suc d)

-- What a scalar begins with: no TRUE, no NOT, and a parenthesis only if it holds no test.
abbrev pub Begins : List Symbol → Type 0
Begins (the.True ∷ ts) = ⊥
Begins (the.Not ∷ ts) = ⊥
Begins (the.Open ∷ ts) = holds_test 0 ts ≡ common.false
Begins ts = Unit {0}

mutual
  -- what it begins with
  pub scalar_begins : {ts rest : List Symbol} {x : Scalar} → IsScalar ts x rest → Begins ts
  scalar_begins (product a) = product_begins a
  scalar_begins (sum a b) = scalar_begins a
  scalar_begins (difference a b) = scalar_begins a

  -- what it begins with
  product_begins : {ts rest : List Symbol} {x : Scalar} → IsProduct ts x rest → Begins ts
  product_begins (factor a) = factor_begins a
  product_begins (times a b) = product_begins a

  -- what it begins with
  factor_begins : {ts rest : List Symbol} {x : Scalar} → IsFactor ts x rest → Begins ts
  factor_begins number = tt
  factor_begins less = tt
  factor_begins decimal = tt
  factor_begins less_decimal = tt
  factor_begins text = tt
  factor_begins (attribute bare) = tt
  factor_begins (attribute of_first) = tt
  factor_begins (attribute of_second) = tt
  factor_begins (attribute of_so) = tt
  factor_begins dur = tt
  factor_begins (least a b) = tt
  factor_begins (greatest a b) = tt
  factor_begins (scalar.group a) = scalar_plain a 0

-- the reader goes on to a comparison
prim_is_test : (n : ℕ) (ts : List Symbol) → Begins ts → prim_at (suc n) ts ≡ test_at n ts
unfolding prim_at
prim_is_test n (the.True ∷ ts) h = absurd h
prim_is_test n (the.Open ∷ ts) h = rw h refl
prim_is_test n ts h = refl

-- no NOT
abbrev pub NotNot : List Symbol → Type 0
NotNot (the.Not ∷ ts) = ⊥
NotNot ts = Unit {0}

-- it does not begin with NOT
begins_not : (ts : List Symbol) → Begins ts → NotNot ts
begins_not (the.Not ∷ ts) h = h
begins_not (the.True ∷ ts) h = tt
begins_not (the.Open ∷ ts) h = tt
begins_not ts h = tt

-- it does not begin with NOT
prim_not : {ts rest : List Symbol} {p : Pred} → IsPrim ts p rest → NotNot ts
prim_not true = tt
prim_not {ts = ts} (test a b) = begins_not ts (scalar_begins a)
prim_not (group a) = tt

-- the reader goes on to a primary
neg_is_prim : (n : ℕ) (ts : List Symbol) → NotNot ts → neg_at (suc n) ts ≡ prim_at n ts
unfolding neg_at
neg_is_prim n (the.Not ∷ ts) h = absurd h
neg_is_prim n ts h = refl

mutual
  -- it takes one symbol at least
  pub pred_shorter : {ts rest : List Symbol} {p : Pred} → IsPred ts p rest → length rest < length ts
  pred_shorter (conj a) = conj_shorter a
  pred_shorter (or a b) = omega (arith, pred_shorter a, conj_shorter b)

  -- it takes one symbol at least
  pub conj_shorter : {ts rest : List Symbol} {p : Pred} → IsConj ts p rest → length rest < length ts
  conj_shorter (neg a) = neg_shorter a
  conj_shorter (and a b) = omega (arith, conj_shorter a, neg_shorter b)

  -- it takes one symbol at least
  pub neg_shorter : {ts rest : List Symbol} {p : Pred} → IsNeg ts p rest → length rest < length ts
  neg_shorter (not a) = omega (arith, neg_shorter a)
  neg_shorter (prim a) = prim_shorter a

  -- it takes one symbol at least
  pub prim_shorter : {ts rest : List Symbol} {p : Pred} → IsPrim ts p rest → length rest < length ts
  prim_shorter true = omega arith
  prim_shorter (test a b) = omega (arith, scalar_shorter a, scalar_shorter b)
  prim_shorter (group a) = omega (arith, pred_shorter a)

-- the reader reads it from its parts
test_ok : (n : ℕ) (ts us rest : List Symbol) (x y : Scalar) (c : Cmp) → scalar_at n ts ≡ Some (x, the.Compare c ∷ us) → scalar_at n us ≡ Some (y, rest) → test_at n ts ≡ Some (Test x c y, rest)
unfolding test_at
test_ok n ts us rest x y c p q = rw p (rw q refl)

mutual
  unfolding pred_at

  -- what is in the grammar is read
  pub pred_complete : {ts rest : List Symbol} {p : Pred} → IsPred ts p rest → (n m : ℕ) (z : Pred × List Symbol) → NotOperator rest → NotAnd rest → n + 8 * length ts ≤ m + 2 + 8 * length rest → pred_more n p rest ≡ Some z → pred_at m ts ≡ Some z
  pred_complete h n zero z free na le e = absurd (omega (arith, pred_shorter h))
  pred_complete {rest = rest} {p = p} (conj a) n (suc m) z free na le e =
      rw (conj_complete a 1 m (p, rest) free (omega (arith, conj_shorter a)) (conj_stays 0 p rest na)) (pred_more_keeps n m p rest z (omega (arith, conj_shorter a)) e)
  pred_complete {rest = rest} (or {us = us} {p = p} {q = q} a b) n (suc m) z free na le e =
      let j : ℕ = n + 8 * (length us - length rest) in
      let right : conj_at j us ≡ Some (q, rest) = conj_complete b 1 j (q, rest) free (omega (arith, conj_shorter b)) (conj_stays 0 q rest na) in
      let more : pred_more (suc j) p (the.Or ∷ us) ≡ Some z = rw right (pred_more_keeps n j (Or p q) rest z (omega arith) e) in
      pred_complete a (suc j) (suc m) z tt tt (omega (arith, pred_shorter a, conj_shorter b)) more

  -- what is in the grammar is read
  pub conj_complete : {ts rest : List Symbol} {p : Pred} → IsConj ts p rest → (n m : ℕ) (z : Pred × List Symbol) → NotOperator rest → n + 8 * length ts ≤ m + 4 + 8 * length rest → conj_more n p rest ≡ Some z → conj_at m ts ≡ Some z
  conj_complete h n zero z free le e = absurd (omega (arith, conj_shorter h))
  conj_complete {rest = rest} {p = p} (neg a) n (suc m) z free le e =
      rw (neg_complete a m free (omega (arith, neg_shorter a))) (conj_more_keeps n m p rest z (omega (arith, neg_shorter a)) e)
  conj_complete {rest = rest} (and {us = us} {p = p} {q = q} a b) n (suc m) z free le e =
      let j : ℕ = n + 8 * (length us - length rest) in
      let right : neg_at j us ≡ Some (q, rest) = neg_complete b j free (omega (arith, neg_shorter b)) in
      let more : conj_more (suc j) p (the.And ∷ us) ≡ Some z = rw right (conj_more_keeps n j (And p q) rest z (omega arith) e) in
      conj_complete a (suc j) (suc m) z tt (omega (arith, conj_shorter a, neg_shorter b)) more

  -- what is in the grammar is read
  pub neg_complete : {ts rest : List Symbol} {p : Pred} → IsNeg ts p rest → (m : ℕ) → NotOperator rest → 8 * length ts ≤ m + 5 + 8 * length rest → neg_at m ts ≡ Some (p, rest)
  neg_complete h zero free le = absurd (omega (arith, neg_shorter h))
  neg_complete (not a) (suc m) free le = rw (neg_complete a m free (omega arith)) refl
  neg_complete {ts = ts} (prim a) (suc m) free le = neg_is_prim m ts (prim_not a) ∙ prim_complete a m free (omega arith)

  -- what is in the grammar is read
  pub prim_complete : {ts rest : List Symbol} {p : Pred} → IsPrim ts p rest → (m : ℕ) → NotOperator rest → 8 * length ts ≤ m + 6 + 8 * length rest → prim_at m ts ≡ Some (p, rest)
  prim_complete h zero free le = absurd (omega (arith, prim_shorter h))
  prim_complete true (suc m) free le = refl
  prim_complete {ts = ts} {rest = rest} (test {us = us} {x = x} {y = y} {c = c} a b) (suc m) free le =
      prim_is_test m ts (scalar_begins a) ∙ test_ok m ts us rest x y c
      (scalar_complete a 1 m (x, the.Compare c ∷ us) tt (omega (arith, scalar_shorter a, scalar_shorter b)) (scalar_stays 0 x (the.Compare c ∷ us) tt))
      (scalar_complete b 1 m (y, rest) (operator_star rest free) (omega (arith, scalar_shorter a, scalar_shorter b)) (scalar_stays 0 y rest free))
  prim_complete (group {ts = ts} {rest = rest} {p = p} a) (suc m) free le =
      rw (pred_tests a 0) (rw (pred_complete a 1 m (p, the.Close ∷ rest) tt tt (omega (arith, pred_shorter a)) refl) refl)
