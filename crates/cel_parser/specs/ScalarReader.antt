-- Reading scalars from left to right, of which statements are read. The number bounds how deep the calls go.
use Rattle.std.specs.Prelude.{ℕ, zero, suc, pos, List, ◌∷◌, Option, Some, None}
use Rattle.cel_grammar.specs.declared.mark.Mark.{Mark}
use Rattle.cel_grammar.specs.declared.mark.Mark.TheVariants as mark
use Rattle.cel_grammar.specs.Symbols.{Symbol}
use Rattle.cel_grammar.specs.Symbols as the
use Rattle.cel_grammar.specs.Scalars.{negative}
use Rattle.cel_grammar.specs.Trees.{Op, Add, Sub, Mul, Min, Max, Scalar, Number, Quoted, Attr, Dur, Two, Decimal}

infixl 10 ◌>>=◌
-- what was read, and then what follows it
abbrev pub ◌>>=◌ : {A B : Type 0} → Option A → (A → Option B) → Option B
None >>= f = None
(Some x) >>= f = f x

-- what was read, and the symbols behind it
abbrev pub Read : Type 0 → Type 0
Read A = Option (A × List Symbol)

-- this tree, and the symbols behind it
abbrev pub done : {A : Type 0} → A → List Symbol → Read A
done x ts = Some (x, ts)

-- an opening parenthesis
abbrev pub open_at : List Symbol → Option (List Symbol)
open_at (the.Open ∷ rest) = Some rest
open_at ts = None

-- a comma
abbrev pub comma_at : List Symbol → Option (List Symbol)
comma_at (the.Comma ∷ rest) = Some rest
comma_at ts = None

-- a closing parenthesis
abbrev pub close_at : List Symbol → Option (List Symbol)
close_at (the.Close ∷ rest) = Some rest
close_at ts = None

-- a number or a decimal behind a minus
abbrev pub number_at : List Symbol → Read Scalar
number_at (the.Number n ∷ rest) = Some (Number (negative n), rest)
number_at (the.Decimal scale n ∷ rest) = Some (Decimal scale (negative n), rest)
number_at ts = None

-- a point and a name behind a mark
abbrev pub name_at : Mark → List Symbol → Read Scalar
name_at m (the.Dot ∷ the.Name a ∷ rest) = Some (Attr m a, rest)
name_at m ts = None

unfoldable mutual
  -- a scalar
  pub scalar_at : ℕ → List Symbol → Read Scalar
  scalar_at zero ts = None
  scalar_at (suc n) ts = product_at n ts >>= λ p. scalar_more n p.0 p.1

  -- a scalar that goes on after this one
  pub scalar_more : ℕ → Scalar → List Symbol → Read Scalar
  scalar_more zero x ts = None
  scalar_more (suc n) x (the.Plus ∷ ts) = product_at n ts >>= λ p. scalar_more n (Two Add x p.0) p.1
  scalar_more (suc n) x (the.Minus ∷ ts) = product_at n ts >>= λ p. scalar_more n (Two Sub x p.0) p.1
  scalar_more (suc n) x ts = Some (x, ts)

  -- a product
  pub product_at : ℕ → List Symbol → Read Scalar
  product_at zero ts = None
  product_at (suc n) ts = factor_at n ts >>= λ p. product_more n p.0 p.1

  -- a product that goes on after this one
  pub product_more : ℕ → Scalar → List Symbol → Read Scalar
  product_more zero x ts = None
  product_more (suc n) x (the.Star ∷ ts) = factor_at n ts >>= λ p. product_more n (Two Mul x p.0) p.1
  product_more (suc n) x ts = Some (x, ts)

  -- a factor
  pub factor_at : ℕ → List Symbol → Read Scalar
  factor_at zero ts = None
  factor_at (suc n) (the.Number k ∷ ts) = Some (Number (pos k), ts)
  factor_at (suc n) (the.Minus ∷ ts) = number_at ts
  factor_at (suc n) (the.Decimal scale k ∷ ts) = Some (Decimal scale (pos k), ts)
  factor_at (suc n) (the.Quoted t ∷ ts) = Some (Quoted t, ts)
  factor_at (suc n) (the.Name a ∷ ts) = Some (Attr mark.Bare a, ts)
  factor_at (suc n) (the.Dollar1 ∷ ts) = name_at mark.First ts
  factor_at (suc n) (the.Dollar2 ∷ ts) = name_at mark.Second ts
  factor_at (suc n) (the.Dollar ∷ ts) = name_at mark.So ts
  factor_at (suc n) (the.Dur ∷ ts) = Some (Dur, ts)
  factor_at (suc n) (the.Min ∷ ts) = both_at n Min ts
  factor_at (suc n) (the.Max ∷ ts) = both_at n Max ts
  factor_at (suc n) (the.Open ∷ ts) = scalar_at n ts >>= λ p. close_at p.1 >>= done p.0
  factor_at (suc n) ts = None

  -- two scalars in parentheses
  pub both_at : ℕ → Op → List Symbol → Read Scalar
  both_at zero o ts = None
  both_at (suc n) o ts = open_at ts >>= λ ts. scalar_at n ts >>= λ p. comma_at p.1 >>= λ us. scalar_at n us >>= λ q. close_at q.1 >>= done (Two o p.0 q.0)
