-- What is in the grammar is read.
use Rattle.std.proofs.Common.{◌≡◌, ℕ, zero, suc, ◌+◌, ◌-◌, ◌*◌, ◌<◌, ◌≤◌, List, ◌∷◌, length, refl, arith}
use Rattle.std.specs.Prelude.{Some}
use Rattle.cel_grammar.specs.Symbols.{Symbol}
use Rattle.cel_grammar.specs.Symbols as the
use Rattle.cel_grammar.specs.Trees.{Op, Add, Sub, Mul, Min, Max, Scalar, Two}
use Rattle.cel_grammar.specs.Scalars.{IsAttribute, bare, of_first, of_second, of_so, IsScalar, product, sum, difference, IsProduct, factor, times, IsFactor, number, less, decimal, less_decimal, text, attribute, dur, least, greatest, group}
use Rattle.cel_parser.specs.ScalarReader.{scalar_at, scalar_more, product_at, product_more, factor_at, both_at}
use Rattle.cel_parser.proofs.ScalarKeeps.{scalar_more_keeps, product_more_keeps}

-- no product goes on here
abbrev pub NotStar : List Symbol → Type 0
NotStar (the.Star ∷ ts) = ⊥
NotStar ts = Unit {0}

-- no scalar goes on here
abbrev pub NotOperator : List Symbol → Type 0
NotOperator (the.Plus ∷ ts) = ⊥
NotOperator (the.Minus ∷ ts) = ⊥
NotOperator (the.Star ∷ ts) = ⊥
NotOperator ts = Unit {0}

-- where no scalar goes on, no product does
pub operator_star : (ts : List Symbol) → NotOperator ts → NotStar ts
operator_star (the.Star ∷ ts) h = h
operator_star (the.Plus ∷ ts) h = tt
operator_star ts h = tt

-- what cannot go on here stays as it is
pub product_stays : (n : ℕ) (x : Scalar) (ts : List Symbol) → NotStar ts → product_more (suc n) x ts ≡ Some (x, ts)
unfolding product_more
product_stays n x (the.Star ∷ ts) h = absurd h
product_stays n x ts h = refl

-- what cannot go on here stays as it is
pub scalar_stays : (n : ℕ) (x : Scalar) (ts : List Symbol) → NotOperator ts → scalar_more (suc n) x ts ≡ Some (x, ts)
unfolding scalar_more
scalar_stays n x (the.Plus ∷ ts) h = absurd h
scalar_stays n x (the.Minus ∷ ts) h = absurd h
scalar_stays n x ts h = refl

-- it takes one symbol at least
attribute_shorter : {ts rest : List Symbol} {x : Scalar} → IsAttribute ts x rest → length rest < length ts
attribute_shorter bare = omega arith
attribute_shorter of_first = omega arith
attribute_shorter of_second = omega arith
attribute_shorter of_so = omega arith

mutual
  -- it takes one symbol at least
  pub scalar_shorter : {ts rest : List Symbol} {x : Scalar} → IsScalar ts x rest → length rest < length ts
  scalar_shorter (product a) = product_shorter a
  scalar_shorter (sum a b) = omega (arith, scalar_shorter a, product_shorter b)
  scalar_shorter (difference a b) = omega (arith, scalar_shorter a, product_shorter b)

  -- it takes one symbol at least
  pub product_shorter : {ts rest : List Symbol} {x : Scalar} → IsProduct ts x rest → length rest < length ts
  product_shorter (factor a) = factor_shorter a
  product_shorter (times a b) = omega (arith, product_shorter a, factor_shorter b)

  -- it takes one symbol at least
  pub factor_shorter : {ts rest : List Symbol} {x : Scalar} → IsFactor ts x rest → length rest < length ts
  factor_shorter number = omega arith
  factor_shorter less = omega arith
  factor_shorter decimal = omega arith
  factor_shorter less_decimal = omega arith
  factor_shorter text = omega arith
  factor_shorter (attribute a) = attribute_shorter a
  factor_shorter dur = omega arith
  factor_shorter (least a b) = omega (arith, scalar_shorter a, scalar_shorter b)
  factor_shorter (greatest a b) = omega (arith, scalar_shorter a, scalar_shorter b)
  factor_shorter (group a) = omega (arith, scalar_shorter a)

-- the reader reads it from its parts
both_ok : (n : ℕ) (o : Op) (ts us rest : List Symbol) (x y : Scalar) → scalar_at n ts ≡ Some (x, the.Comma ∷ us) → scalar_at n us ≡ Some (y, the.Close ∷ rest) → both_at (suc n) o (the.Open ∷ ts) ≡ Some (Two o x y, rest)
unfolding both_at
both_ok n o ts us rest x y p q = rw p (rw q refl)

mutual
  unfolding scalar_at

  -- what is in the grammar is read
  pub scalar_complete : {ts rest : List Symbol} {x : Scalar} → IsScalar ts x rest → (n m : ℕ) (z : Scalar × List Symbol) → NotStar rest → n + 4 * length ts ≤ m + 4 * length rest → scalar_more n x rest ≡ Some z → scalar_at m ts ≡ Some z
  scalar_complete h n zero z ns le e = absurd (omega (arith, scalar_shorter h))
  scalar_complete {rest = rest} {x = x} (product a) n (suc m) z ns le e =
      rw (product_complete a 1 m (x, rest) (omega (arith, product_shorter a)) (product_stays 0 x rest ns)) (scalar_more_keeps n m x rest z (omega (arith, product_shorter a)) e)
  scalar_complete {rest = rest} (sum {us = us} {x = x} {y = y} a b) n (suc m) z ns le e =
      let j : ℕ = n + 4 * (length us - length rest) in
      let right : product_at j us ≡ Some (y, rest) = product_complete b 1 j (y, rest) (omega (arith, product_shorter b)) (product_stays 0 y rest ns) in
      let more : scalar_more (suc j) x (the.Plus ∷ us) ≡ Some z = rw right (scalar_more_keeps n j (Two Add x y) rest z (omega arith) e) in
      scalar_complete a (suc j) (suc m) z tt (omega (arith, scalar_shorter a, product_shorter b)) more
  scalar_complete {rest = rest} (difference {us = us} {x = x} {y = y} a b) n (suc m) z ns le e =
      let j : ℕ = n + 4 * (length us - length rest) in
      let right : product_at j us ≡ Some (y, rest) = product_complete b 1 j (y, rest) (omega (arith, product_shorter b)) (product_stays 0 y rest ns) in
      let more : scalar_more (suc j) x (the.Minus ∷ us) ≡ Some z = rw right (scalar_more_keeps n j (Two Sub x y) rest z (omega arith) e) in
      scalar_complete a (suc j) (suc m) z tt (omega (arith, scalar_shorter a, product_shorter b)) more

  -- what is in the grammar is read
  pub product_complete : {ts rest : List Symbol} {x : Scalar} → IsProduct ts x rest → (n m : ℕ) (z : Scalar × List Symbol) → n + 4 * length ts ≤ m + 2 + 4 * length rest → product_more n x rest ≡ Some z → product_at m ts ≡ Some z
  product_complete h n zero z le e = absurd (omega (arith, product_shorter h))
  product_complete {rest = rest} {x = x} (factor a) n (suc m) z le e =
      rw (factor_complete a m (omega (arith, factor_shorter a))) (product_more_keeps n m x rest z (omega (arith, factor_shorter a)) e)
  product_complete {rest = rest} (times {us = us} {x = x} {y = y} a b) n (suc m) z le e =
      let j : ℕ = n + 4 * (length us - length rest) in
      let right : factor_at j us ≡ Some (y, rest) = factor_complete b j (omega (arith, factor_shorter b)) in
      let more : product_more (suc j) x (the.Star ∷ us) ≡ Some z = rw right (product_more_keeps n j (Two Mul x y) rest z (omega arith) e) in
      product_complete a (suc j) (suc m) z (omega (arith, product_shorter a, factor_shorter b)) more

  -- what is in the grammar is read
  pub factor_complete : {ts rest : List Symbol} {x : Scalar} → IsFactor ts x rest → (m : ℕ) → 4 * length ts ≤ m + 3 + 4 * length rest → factor_at m ts ≡ Some (x, rest)
  factor_complete h zero le = absurd (omega (arith, factor_shorter h))
  factor_complete number (suc m) le = refl
  factor_complete less (suc m) le = refl
  factor_complete decimal (suc m) le = refl
  factor_complete less_decimal (suc m) le = refl
  factor_complete text (suc m) le = refl
  factor_complete (attribute bare) (suc m) le = refl
  factor_complete (attribute of_first) (suc m) le = refl
  factor_complete (attribute of_second) (suc m) le = refl
  factor_complete (attribute of_so) (suc m) le = refl
  factor_complete dur (suc m) le = refl
  factor_complete (least a b) (suc zero) le = absurd (omega (arith, scalar_shorter a, scalar_shorter b))
  factor_complete (least {ts = ts} {us = us} {rest = rest} {x = x} {y = y} a b) (suc (suc m)) le =
      both_ok m Min ts us rest x y
      (scalar_complete a 1 m (x, the.Comma ∷ us) tt (omega (arith, scalar_shorter a, scalar_shorter b)) refl)
      (scalar_complete b 1 m (y, the.Close ∷ rest) tt (omega (arith, scalar_shorter a, scalar_shorter b)) refl)
  factor_complete (greatest a b) (suc zero) le = absurd (omega (arith, scalar_shorter a, scalar_shorter b))
  factor_complete (greatest {ts = ts} {us = us} {rest = rest} {x = x} {y = y} a b) (suc (suc m)) le =
      both_ok m Max ts us rest x y
      (scalar_complete a 1 m (x, the.Comma ∷ us) tt (omega (arith, scalar_shorter a, scalar_shorter b)) refl)
      (scalar_complete b 1 m (y, the.Close ∷ rest) tt (omega (arith, scalar_shorter a, scalar_shorter b)) refl)
  factor_complete (group {ts = ts} {rest = rest} {x = x} a) (suc m) le =
      rw (scalar_complete a 1 m (x, the.Close ∷ rest) tt (omega (arith, scalar_shorter a)) refl) refl
