-- What is read is in the grammar.
use Rattle.std.proofs.Common.{◌≡◌, ℕ, zero, suc, List, ◌∷◌, refl, subst}
use Rattle.std.specs.Prelude.{Option, Some, None}
use Rattle.cel_grammar.specs.Symbols.{Symbol}
use Rattle.cel_grammar.specs.Symbols as the
use Rattle.cel_grammar.specs.declared.mark.Mark.TheVariants as mark
use Rattle.cel_grammar.specs.Trees.{Op, Add, Sub, Mul, Min, Max, Scalar, Two}
use Rattle.cel_grammar.specs.Scalars.{IsAttribute, bare, of_first, of_second, of_so, IsScalar, product, sum, difference, IsProduct, factor, times, IsFactor, number, less, decimal, less_decimal, text, attribute, dur, least, greatest, group}
use Rattle.cel_parser.specs.ScalarReader.{◌>>=◌, open_at, comma_at, close_at, number_at, name_at, done, scalar_at, scalar_more, product_at, product_more, factor_at, both_at}

-- both parts were read
pub bind_some : {A B : Type 0} (a : Option A) (f : A → Option B) (z : B) → (a >>= f) ≡ Some z → (y : A) × (a ≡ Some y) × (f y ≡ Some z)
bind_some None f z e = absurd cc
bind_some (Some y) f z e = (y, refl, e)

-- what was read is what is asked for
pub same : {A : Type 0} (P : A → List Symbol → Type 0) (x : A) (ts : List Symbol) (y : A) (us : List Symbol) → done x ts ≡ done y us → P x ts → P y us
same {A} P x ts y us e h =
    let p : A × List Symbol = (x, ts) in
    let q : A × List Symbol = (y, us) in
    let same_pair : p ≡ q = cc in
    let Q : A × List Symbol → Type 0 = λ r. P r.0 r.1 in
    subst Q same_pair h

-- the reader reads it from its parts
pub open_is : (ts us : List Symbol) → open_at ts ≡ Some us → ts ≡ the.Open ∷ us
open_is (the.Open ∷ ts) us e = cc
open_is ts us e = absurd cc

-- the reader reads it from its parts
pub comma_is : (ts us : List Symbol) → comma_at ts ≡ Some us → ts ≡ the.Comma ∷ us
comma_is (the.Comma ∷ ts) us e = cc
comma_is ts us e = absurd cc

-- the reader reads it from its parts
pub close_is : (ts us : List Symbol) → close_at ts ≡ Some us → ts ≡ the.Close ∷ us
close_is (the.Close ∷ ts) us e = cc
close_is ts us e = absurd cc

-- what is read is in the grammar
number_sound : (ts : List Symbol) (x : Scalar) (rest : List Symbol) → number_at ts ≡ Some (x, rest) → IsFactor (the.Minus ∷ ts) x rest
number_sound (the.Number n ∷ ts) x rest e = same (IsFactor (the.Minus ∷ the.Number n ∷ ts)) _ ts x rest e less
number_sound (the.Decimal scale n ∷ ts) x rest e = same (IsFactor (the.Minus ∷ the.Decimal scale n ∷ ts)) _ ts x rest e less_decimal
number_sound ts x rest e = absurd cc

-- what is read is in the grammar
first_sound : (ts : List Symbol) (x : Scalar) (rest : List Symbol) → name_at mark.First ts ≡ Some (x, rest) → IsAttribute (the.Dollar1 ∷ ts) x rest
first_sound (the.Dot ∷ the.Name a ∷ us) x rest e = same (IsAttribute (the.Dollar1 ∷ the.Dot ∷ the.Name a ∷ us)) _ us x rest e of_first
first_sound ts x rest e = absurd cc

-- what is read is in the grammar
second_sound : (ts : List Symbol) (x : Scalar) (rest : List Symbol) → name_at mark.Second ts ≡ Some (x, rest) → IsAttribute (the.Dollar2 ∷ ts) x rest
second_sound (the.Dot ∷ the.Name a ∷ us) x rest e = same (IsAttribute (the.Dollar2 ∷ the.Dot ∷ the.Name a ∷ us)) _ us x rest e of_second
second_sound ts x rest e = absurd cc

-- what is read is in the grammar
so_sound : (ts : List Symbol) (x : Scalar) (rest : List Symbol) → name_at mark.So ts ≡ Some (x, rest) → IsAttribute (the.Dollar ∷ ts) x rest
so_sound (the.Dot ∷ the.Name a ∷ us) x rest e = same (IsAttribute (the.Dollar ∷ the.Dot ∷ the.Name a ∷ us)) _ us x rest e of_so
so_sound ts x rest e = absurd cc

-- what is read is in the grammar
group_sound : (ts vs : List Symbol) (x : Scalar) (y : Scalar) (rest : List Symbol) → IsScalar ts x vs → (close_at vs >>= done x) ≡ done y rest → IsFactor (the.Open ∷ ts) y rest
group_sound ts (the.Close ∷ us) x y rest h e = same (IsFactor (the.Open ∷ ts)) x us y rest e (group h)
group_sound ts vs x y rest h e = absurd cc

-- two scalars in parentheses
pub record Both (o : Op) (ts : List Symbol) (z : Scalar) (rest : List Symbol) : Type 0 where
  pub left : Scalar
  pub right : Scalar
  pub from : List Symbol
  pub middle : List Symbol
  pub opened : ts ≡ the.Open ∷ from
  pub first : IsScalar from left (the.Comma ∷ middle)
  pub second : IsScalar middle right (the.Close ∷ rest)
  pub whole : z ≡ Two o left right

-- what is read is in the grammar
least_sound : (ts : List Symbol) (z : Scalar) (rest : List Symbol) → Both Min ts z rest → IsFactor (the.Min ∷ ts) z rest
least_sound ts z rest b = rw (b.opened, b.whole) (least b.first b.second)

-- what is read is in the grammar
greatest_sound : (ts : List Symbol) (z : Scalar) (rest : List Symbol) → Both Max ts z rest → IsFactor (the.Max ∷ ts) z rest
greatest_sound ts z rest b = rw (b.opened, b.whole) (greatest b.first b.second)

-- a closing parenthesis stood there
pub close_then : (ts : List Symbol) (x z : Scalar) (rest : List Symbol) → (close_at ts >>= done x) ≡ done z rest → (ts ≡ the.Close ∷ rest) × (z ≡ x)
close_then (the.Close ∷ us) x z rest e =
    let P : Scalar → List Symbol → Type 0 = λ y vs. (the.Close ∷ us ≡ the.Close ∷ vs) × (y ≡ x) in
    same P x us z rest e (refl, refl)
close_then ts x z rest e = absurd cc

-- its parts make it
both_made : (o : Op) (ts from after middle last : List Symbol) (x y z : Scalar) (rest : List Symbol) → open_at ts ≡ Some from → IsScalar from x after → comma_at after ≡ Some middle → IsScalar middle y last → (close_at last >>= done (Two o x y)) ≡ done z rest → Both o ts z rest
both_made o ts from after middle last x y z rest e1 h e2 k e3 =
    let end = close_then last (Two o x y) z rest e3 in
    record {
      left = x;
      right = y;
      from = from;
      middle = middle;
      opened = open_is ts from e1;
      first = rw (comma_is after middle e2) at h;
      second = rw end.0 at k;
      whole = end.1;
    }

mutual
  unfolding scalar_at

  -- what is read is in the grammar
  pub scalar_sound : (n : ℕ) (ts : List Symbol) (x : Scalar) (rest : List Symbol) → scalar_at n ts ≡ Some (x, rest) → IsScalar ts x rest
  scalar_sound zero ts x rest e = absurd cc
  scalar_sound (suc n) ts x rest e =
      let s = bind_some (product_at n ts) (λ p. scalar_more n p.0 p.1) (x, rest) e in
      scalar_more_sound n ts s.0.0 s.0.1 x rest (product (product_sound n ts s.0.0 s.0.1 s.1)) s.2

  -- what is read is in the grammar
  pub scalar_more_sound : (n : ℕ) (front : List Symbol) (x : Scalar) (ts : List Symbol) (y : Scalar) (rest : List Symbol) → IsScalar front x ts → scalar_more n x ts ≡ Some (y, rest) → IsScalar front y rest
  scalar_more_sound zero front x ts y rest h e = absurd cc
  scalar_more_sound (suc n) front x (the.Plus ∷ ts) y rest h e =
      let s = bind_some (product_at n ts) (λ p. scalar_more n (Two Add x p.0) p.1) (y, rest) e in
      scalar_more_sound n front (Two Add x s.0.0) s.0.1 y rest (sum h (product_sound n ts s.0.0 s.0.1 s.1)) s.2
  scalar_more_sound (suc n) front x (the.Minus ∷ ts) y rest h e =
      let s = bind_some (product_at n ts) (λ p. scalar_more n (Two Sub x p.0) p.1) (y, rest) e in
      scalar_more_sound n front (Two Sub x s.0.0) s.0.1 y rest (difference h (product_sound n ts s.0.0 s.0.1 s.1)) s.2
  scalar_more_sound (suc n) front x ts y rest h e = same (IsScalar front) x ts y rest e h

  -- what is read is in the grammar
  pub product_sound : (n : ℕ) (ts : List Symbol) (x : Scalar) (rest : List Symbol) → product_at n ts ≡ Some (x, rest) → IsProduct ts x rest
  product_sound zero ts x rest e = absurd cc
  product_sound (suc n) ts x rest e =
      let s = bind_some (factor_at n ts) (λ p. product_more n p.0 p.1) (x, rest) e in
      product_more_sound n ts s.0.0 s.0.1 x rest (factor (factor_sound n ts s.0.0 s.0.1 s.1)) s.2

  -- what is read is in the grammar
  pub product_more_sound : (n : ℕ) (front : List Symbol) (x : Scalar) (ts : List Symbol) (y : Scalar) (rest : List Symbol) → IsProduct front x ts → product_more n x ts ≡ Some (y, rest) → IsProduct front y rest
  product_more_sound zero front x ts y rest h e = absurd cc
  product_more_sound (suc n) front x (the.Star ∷ ts) y rest h e =
      let s = bind_some (factor_at n ts) (λ p. product_more n (Two Mul x p.0) p.1) (y, rest) e in
      product_more_sound n front (Two Mul x s.0.0) s.0.1 y rest (times h (factor_sound n ts s.0.0 s.0.1 s.1)) s.2
  product_more_sound (suc n) front x ts y rest h e = same (IsProduct front) x ts y rest e h

  -- what is read is in the grammar
  pub factor_sound : (n : ℕ) (ts : List Symbol) (x : Scalar) (rest : List Symbol) → factor_at n ts ≡ Some (x, rest) → IsFactor ts x rest
  factor_sound zero ts x rest e = absurd cc
  factor_sound (suc n) (the.Number k ∷ ts) x rest e = same (IsFactor (the.Number k ∷ ts)) _ ts x rest e number
  factor_sound (suc n) (the.Minus ∷ ts) x rest e = number_sound ts x rest e
  factor_sound (suc n) (the.Decimal scale k ∷ ts) x rest e = same (IsFactor (the.Decimal scale k ∷ ts)) _ ts x rest e decimal
  factor_sound (suc n) (the.Quoted t ∷ ts) x rest e = same (IsFactor (the.Quoted t ∷ ts)) _ ts x rest e text
  factor_sound (suc n) (the.Name a ∷ ts) x rest e = same (IsFactor (the.Name a ∷ ts)) _ ts x rest e (attribute bare)
  factor_sound (suc n) (the.Dollar1 ∷ ts) x rest e = attribute (first_sound ts x rest e)
  factor_sound (suc n) (the.Dollar2 ∷ ts) x rest e = attribute (second_sound ts x rest e)
  factor_sound (suc n) (the.Dollar ∷ ts) x rest e = attribute (so_sound ts x rest e)
  factor_sound (suc n) (the.Dur ∷ ts) x rest e = same (IsFactor (the.Dur ∷ ts)) _ ts x rest e dur
  factor_sound (suc n) (the.Min ∷ ts) x rest e = least_sound ts x rest (both_sound n Min ts x rest e)
  factor_sound (suc n) (the.Max ∷ ts) x rest e = greatest_sound ts x rest (both_sound n Max ts x rest e)
  factor_sound (suc n) (the.Open ∷ ts) x rest e =
      let s = bind_some (scalar_at n ts) (λ p. close_at p.1 >>= done p.0) (x, rest) e in
      group_sound ts s.0.1 s.0.0 x rest (scalar_sound n ts s.0.0 s.0.1 s.1) s.2
  factor_sound (suc n) ts x rest e = absurd cc

  -- what is read is in the grammar
  pub both_sound : (n : ℕ) (o : Op) (ts : List Symbol) (x : Scalar) (rest : List Symbol) → both_at n o ts ≡ Some (x, rest) → Both o ts x rest
  both_sound zero o ts x rest e = absurd cc
  both_sound (suc n) o ts x rest e =
      let a = bind_some (open_at ts) _ (x, rest) e in
      let b = bind_some (scalar_at n a.0) _ (x, rest) a.2 in
      let c = bind_some (comma_at b.0.1) _ (x, rest) b.2 in
      let d = bind_some (scalar_at n c.0) _ (x, rest) c.2 in
      both_made o ts a.0 b.0.1 c.0 d.0.1 b.0.0 d.0.0 x rest a.1 (scalar_sound n a.0 b.0.0 b.0.1 b.1) c.1 (scalar_sound n c.0 d.0.0 d.0.1 d.1) d.2
