-- No symbols that read as a scalar are fewer, or nested less, than its canonical ones.
use Rattle.std.proofs.Common.{ℕ, zero, suc, List, ◌∷◌, arith, refl}
use Rattle.cel_grammar.specs.Symbols.{Symbol}
use Rattle.cel_grammar.specs.Symbols as the
use Rattle.cel_grammar.specs.Trees.{Scalar, Two, Min, Max}
use Rattle.cel_grammar.specs.Scalars.{negative, IsAttribute, bare, of_first, of_second, of_so, IsScalar, product, sum, difference, IsProduct, factor, times, IsFactor, number, less, decimal, less_decimal, text, attribute, dur, least, greatest, group}
use Rattle.cel_print.specs.declared.places.ScalarPlace.TheVariants as scalar_place
use Rattle.cel_print.specs.Words.{Of}
use Rattle.cel_print.specs.ScalarWords.{number_words, decimal_words, scalar_words}
use Rattle.cel_print.proofs.ReadScalars.{negative_suc}
use Rattle.cel_print.proofs.Bounds.{Bound, Plain, idle, leaf, loosened, joined, prefixed, wrapped, unwrapped, enclosed, parens}

-- so many pairs more are needed at each place
pub record Bounds (p f : ℕ) (x : Scalar) (ts rest : List Symbol) : Type 0 where
  pub scalar : Bound 0 (scalar_words scalar_place.Scalar x) ts rest
  pub product : Bound p (scalar_words scalar_place.Product x) ts rest
  pub factor : Bound f (scalar_words scalar_place.Factor x) ts rest

-- the same words at each place
same : (x : Scalar) (ts rest : List Symbol) → Bound 0 (scalar_words scalar_place.Scalar x) ts rest → Bound 0 (scalar_words scalar_place.Product x) ts rest → Bound 0 (scalar_words scalar_place.Factor x) ts rest → Bounds 0 0 x ts rest
same x ts rest a b c = record { scalar = a; product = b; factor = c }

-- a number behind a minus, which it loses if it is 0
negative_bound : (n : ℕ) (rest : List Symbol) → Bound 0 (number_words (negative n)) (the.Minus ∷ the.Number n ∷ rest) rest
negative_bound zero rest = record { few = λ r. omega arith; shallow = λ d e r h. omega arith; after = λ d. omega arith }
negative_bound (suc n) rest = rw (negative_suc n) (record { few = λ r. omega arith; shallow = λ d e r h. omega arith; after = λ d. omega arith })

-- a decimal behind a minus, which it loses if it has no units
negative_decimal_bound : (scale n : ℕ) (rest : List Symbol) → Bound 0 (decimal_words scale (negative n)) (the.Minus ∷ the.Decimal scale n ∷ rest) rest
negative_decimal_bound scale zero rest = record { few = λ r. omega arith; shallow = λ d e r h. omega arith; after = λ d. omega arith }
negative_decimal_bound scale (suc n) rest = rw (negative_suc n) (record { few = λ r. omega arith; shallow = λ d e r h. omega arith; after = λ d. omega arith })

-- an attribute
attribute_bound : {ts rest : List Symbol} {x : Scalar} → IsAttribute ts x rest → Bounds 0 0 x ts rest
attribute_bound {rest = rest} (bare {a = a}) = let it = leaf (the.Name a) rest (λ d ts. refl) in same _ _ rest it it it
attribute_bound {rest = rest} (of_first {a = a}) = let it = prefixed the.Dollar1 _ _ rest (λ d ts. refl) (prefixed the.Dot _ _ rest (λ d ts. refl) (leaf (the.Name a) rest (λ d ts. refl))) in same _ _ rest it it it
attribute_bound {rest = rest} (of_second {a = a}) = let it = prefixed the.Dollar2 _ _ rest (λ d ts. refl) (prefixed the.Dot _ _ rest (λ d ts. refl) (leaf (the.Name a) rest (λ d ts. refl))) in same _ _ rest it it it
attribute_bound {rest = rest} (of_so {a = a}) = let it = prefixed the.Dollar _ _ rest (λ d ts. refl) (prefixed the.Dot _ _ rest (λ d ts. refl) (leaf (the.Name a) rest (λ d ts. refl))) in same _ _ rest it it it

-- two scalars in parentheses behind MIN or MAX
both_bound : (t : Symbol) (x y : Scalar) (ts us rest : List Symbol) → Plain t → Bound 0 (scalar_words scalar_place.Scalar x) ts (the.Comma ∷ us) → Bound 0 (scalar_words scalar_place.Scalar y) us (the.Close ∷ rest) → Bound 0 (λ r. Of t ∷ Of the.Open ∷ scalar_words scalar_place.Scalar x (Of the.Comma ∷ scalar_words scalar_place.Scalar y (Of the.Close ∷ r))) (t ∷ the.Open ∷ ts) rest
both_bound t x y ts us rest plain a b =
    let inside : Bound 0 (λ r. scalar_words scalar_place.Scalar x (Of the.Comma ∷ scalar_words scalar_place.Scalar y r)) ts (the.Close ∷ rest) = joined 0 the.Comma (scalar_words scalar_place.Scalar x) (scalar_words scalar_place.Scalar y) ts us (the.Close ∷ rest) (λ d ts. refl) a b in
    prefixed t _ (the.Open ∷ ts) rest plain (enclosed the.Open the.Close (λ r. scalar_words scalar_place.Scalar x (Of the.Comma ∷ scalar_words scalar_place.Scalar y r)) (λ r. r) ts rest rest parens inside (idle rest))

mutual
  -- by induction on what the symbols read as
  pub scalar_bound : {ts rest : List Symbol} {x : Scalar} → IsScalar ts x rest → Bounds 1 1 x ts rest
  scalar_bound {ts} {rest} {x} (product h) = let b = product_bound h in record { scalar = b.scalar; product = loosened _ ts rest b.product; factor = b.factor }
  scalar_bound {ts} {rest} {x} (sum {us = us} {x = y} {y = z} h k) =
      let it = joined 0 the.Plus (scalar_words scalar_place.Scalar y) (scalar_words scalar_place.Product z) ts us rest (λ d ts. refl) (scalar_bound h).scalar (product_bound k).product in
      record { scalar = it; product = wrapped _ ts rest it; factor = wrapped _ ts rest it }
  scalar_bound {ts} {rest} {x} (difference {us = us} {x = y} {y = z} h k) =
      let it = joined 0 the.Minus (scalar_words scalar_place.Scalar y) (scalar_words scalar_place.Product z) ts us rest (λ d ts. refl) (scalar_bound h).scalar (product_bound k).product in
      record { scalar = it; product = wrapped _ ts rest it; factor = wrapped _ ts rest it }

  -- by induction on what the symbols read as
  pub product_bound : {ts rest : List Symbol} {x : Scalar} → IsProduct ts x rest → Bounds 0 1 x ts rest
  product_bound {ts} {rest} {x} (factor h) = let b = factor_bound h in record { scalar = b.scalar; product = b.product; factor = loosened _ ts rest b.factor }
  product_bound {ts} {rest} {x} (times {us = us} {x = y} {y = z} h k) =
      let it = joined 0 the.Star (scalar_words scalar_place.Product y) (scalar_words scalar_place.Factor z) ts us rest (λ d ts. refl) (product_bound h).product (factor_bound k).factor in
      record { scalar = it; product = it; factor = wrapped _ ts rest it }

  -- by induction on what the symbols read as
  pub factor_bound : {ts rest : List Symbol} {x : Scalar} → IsFactor ts x rest → Bounds 0 0 x ts rest
  factor_bound {rest = rest} (number {n = n}) = let it = leaf (the.Number n) rest (λ d ts. refl) in same _ _ rest it it it
  factor_bound {rest = rest} (less {n = n}) = let it = negative_bound n rest in same _ _ rest it it it
  factor_bound {rest = rest} (decimal {scale = scale} {n = n}) = let it = leaf (the.Decimal scale n) rest (λ d ts. refl) in same _ _ rest it it it
  factor_bound {rest = rest} (less_decimal {scale = scale} {n = n}) = let it = negative_decimal_bound scale n rest in same _ _ rest it it it
  factor_bound {rest = rest} (text {t = t}) = let it = leaf (the.Quoted t) rest (λ d ts. refl) in same _ _ rest it it it
  factor_bound (attribute h) = attribute_bound h
  factor_bound {rest = rest} dur = let it = leaf the.Dur rest (λ d ts. refl) in same _ _ rest it it it
  factor_bound {rest = rest} (least {ts = ts} {us = us} {x = x} {y = y} h k) =
      let it = both_bound the.Min x y ts us rest (λ d ts. refl) (scalar_bound h).scalar (scalar_bound k).scalar in same (Two Min x y) _ rest it it it
  factor_bound {rest = rest} (greatest {ts = ts} {us = us} {x = x} {y = y} h k) =
      let it = both_bound the.Max x y ts us rest (λ d ts. refl) (scalar_bound h).scalar (scalar_bound k).scalar in same (Two Max x y) _ rest it it it
  factor_bound {rest = rest} (group {ts = ts} {x = x} h) =
      let b = scalar_bound h in
      same x (the.Open ∷ ts) rest (unwrapped _ ts rest (loosened _ ts (the.Close ∷ rest) b.scalar)) (unwrapped _ ts rest b.product) (unwrapped _ ts rest b.factor)
