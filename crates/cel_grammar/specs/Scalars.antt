-- The grammar of scalars. `IsScalar ts x rest` says that a scalar which is x stands at the front of
-- the symbols ts, and that rest follows it.
use Rattle.std.specs.Prelude.{ℕ, ℤ, pos, ◌-ℤ◌, List, ◌∷◌}
use Rattle.cel_grammar.specs.declared.mark.Mark.TheVariants as mark
use Rattle.cel_grammar.specs.Symbols.{Symbol}
use Rattle.cel_grammar.specs.Symbols as the
use Rattle.cel_grammar.specs.Trees.{Add, Sub, Mul, Min, Max, Scalar, Number, Quoted, Attr, Dur, Two, Decimal}

-- a number, or the units of a decimal, behind a minus
abbrev pub negative : ℕ → ℤ
negative n = pos 0 -ℤ pos n

-- name; or mark . name
pub data IsAttribute : List Symbol → Scalar → List Symbol → Type 0 where
  bare : {a : List ℕ} {rest : List Symbol} → IsAttribute (the.Name a ∷ rest) (Attr mark.Bare a) rest
  of_first : {a : List ℕ} {rest : List Symbol} → IsAttribute (the.Dollar1 ∷ the.Dot ∷ the.Name a ∷ rest) (Attr mark.First a) rest
  of_second : {a : List ℕ} {rest : List Symbol} → IsAttribute (the.Dollar2 ∷ the.Dot ∷ the.Name a ∷ rest) (Attr mark.Second a) rest
  of_so : {a : List ℕ} {rest : List Symbol} → IsAttribute (the.Dollar ∷ the.Dot ∷ the.Name a ∷ rest) (Attr mark.So a) rest

mutual
  -- product, zero or more of (+ or -, product), grouped from the left
  pub data IsScalar : List Symbol → Scalar → List Symbol → Type 0 where
    product : {ts rest : List Symbol} {x : Scalar} → IsProduct ts x rest → IsScalar ts x rest
    sum : {ts us rest : List Symbol} {x y : Scalar} → IsScalar ts x (the.Plus ∷ us) → IsProduct us y rest → IsScalar ts (Two Add x y) rest
    difference : {ts us rest : List Symbol} {x y : Scalar} → IsScalar ts x (the.Minus ∷ us) → IsProduct us y rest → IsScalar ts (Two Sub x y) rest

  -- factor, zero or more of (* factor), grouped from the left
  pub data IsProduct : List Symbol → Scalar → List Symbol → Type 0 where
    factor : {ts rest : List Symbol} {x : Scalar} → IsFactor ts x rest → IsProduct ts x rest
    times : {ts us rest : List Symbol} {x y : Scalar} → IsProduct ts x (the.Star ∷ us) → IsFactor us y rest → IsProduct ts (Two Mul x y) rest

  -- number; or - number; or decimal; or - decimal; or text; or attribute; or DUR; or MIN or MAX of two scalars; or ( scalar )
  pub data IsFactor : List Symbol → Scalar → List Symbol → Type 0 where
    number : {n : ℕ} {rest : List Symbol} → IsFactor (the.Number n ∷ rest) (Number (pos n)) rest
    less : {n : ℕ} {rest : List Symbol} → IsFactor (the.Minus ∷ the.Number n ∷ rest) (Number (negative n)) rest
    decimal : {scale n : ℕ} {rest : List Symbol} → IsFactor (the.Decimal scale n ∷ rest) (Decimal scale (pos n)) rest
    less_decimal : {scale n : ℕ} {rest : List Symbol} → IsFactor (the.Minus ∷ the.Decimal scale n ∷ rest) (Decimal scale (negative n)) rest
    text : {t : List ℕ} {rest : List Symbol} → IsFactor (the.Quoted t ∷ rest) (Quoted t) rest
    attribute : {ts rest : List Symbol} {x : Scalar} → IsAttribute ts x rest → IsFactor ts x rest
    dur : {rest : List Symbol} → IsFactor (the.Dur ∷ rest) Dur rest
    least : {ts us rest : List Symbol} {x y : Scalar} → IsScalar ts x (the.Comma ∷ us) → IsScalar us y (the.Close ∷ rest) → IsFactor (the.Min ∷ the.Open ∷ ts) (Two Min x y) rest
    greatest : {ts us rest : List Symbol} {x y : Scalar} → IsScalar ts x (the.Comma ∷ us) → IsScalar us y (the.Close ∷ rest) → IsFactor (the.Max ∷ the.Open ∷ ts) (Two Max x y) rest
    group : {ts rest : List Symbol} {x : Scalar} → IsScalar ts x (the.Close ∷ rest) → IsFactor (the.Open ∷ ts) x rest
