-- The canonical symbols of a scalar are read as it.
use Rattle.std.proofs.Common.{◌≡◌, ℕ, suc, ℤ, pos, negsuc, List, ◌∷◌, arith}
use Rattle.std.proofs.lemmas.Int.{ints}
use Rattle.cel_grammar.specs.declared.mark.Mark.{Mark}
use Rattle.cel_grammar.specs.declared.mark.Mark.TheVariants as mark
use Rattle.cel_grammar.specs.Symbols as the
use Rattle.cel_grammar.specs.Trees.{Add, Sub, Mul, Min, Max, Scalar, Number, Quoted, Attr, Dur, Two, Decimal}
use Rattle.cel_grammar.specs.Scalars.{negative, bare, of_first, of_second, of_so, IsScalar, product, sum, difference, IsProduct, factor, times, IsFactor, number, less, decimal, less_decimal, text, attribute, dur, least, greatest, group}
use Rattle.cel_print.specs.declared.places.ScalarPlace.TheVariants as scalar_place
use Rattle.cel_print.specs.Words.{Word, Of, symbols}
use Rattle.cel_print.specs.ScalarWords.{number_words, decimal_words, attribute_words, scalar_words}

-- the words at each place are what the rule wants there
pub record Reads (x : Scalar) (rest : List Word) : Type 0 where
  pub scalar : IsScalar (symbols (scalar_words scalar_place.Scalar x rest)) x (symbols rest)
  pub product : IsProduct (symbols (scalar_words scalar_place.Product x rest)) x (symbols rest)
  pub factor : IsFactor (symbols (scalar_words scalar_place.Factor x rest)) x (symbols rest)

-- a number behind a minus is below 0
pub negative_suc : (n : ℕ) → negative (suc n) ≡ negsuc n
negative_suc n = omega (arith, ints)

-- a number is read
number_reads : (n : ℤ) (rest : List Word) → IsFactor (symbols (number_words n rest)) (Number n) (symbols rest)
number_reads (pos n) rest = number
number_reads (negsuc n) rest = rw (← negative_suc n) less

-- a decimal is read
decimal_reads : (scale : ℕ) (units : ℤ) (rest : List Word) → IsFactor (symbols (decimal_words scale units rest)) (Decimal scale units) (symbols rest)
decimal_reads scale (pos n) rest = decimal
decimal_reads scale (negsuc n) rest = rw (← negative_suc n) less_decimal

-- an attribute is read
attribute_reads : (m : Mark) (a : List ℕ) (rest : List Word) → IsFactor (symbols (attribute_words m a rest)) (Attr m a) (symbols rest)
attribute_reads mark.Bare a rest = attribute bare
attribute_reads mark.First a rest = attribute of_first
attribute_reads mark.Second a rest = attribute of_second
attribute_reads mark.So a rest = attribute of_so

-- what a factor reads as, it reads as at each place
as_factor : (x : Scalar) (rest : List Word) → IsFactor (symbols (scalar_words scalar_place.Scalar x rest)) x (symbols rest) → IsFactor (symbols (scalar_words scalar_place.Product x rest)) x (symbols rest) → IsFactor (symbols (scalar_words scalar_place.Factor x rest)) x (symbols rest) → Reads x rest
as_factor x rest a b c = record { scalar = product (factor a); product = factor b; factor = c }

-- by induction on the scalar
pub reads : (x : Scalar) (rest : List Word) → Reads x rest
reads (Number n) rest = let it = number_reads n rest in as_factor (Number n) rest it it it
reads (Decimal scale units) rest = let it = decimal_reads scale units rest in as_factor (Decimal scale units) rest it it it
reads (Quoted t) rest = as_factor (Quoted t) rest text text text
reads (Attr m a) rest = let it = attribute_reads m a rest in as_factor (Attr m a) rest it it it
reads Dur rest = as_factor Dur rest dur dur dur
reads (Two Add x y) rest =
    let inside = sum (reads x (Of the.Plus ∷ scalar_words scalar_place.Product y (Of the.Close ∷ rest))).scalar (reads y (Of the.Close ∷ rest)).product in
    record { scalar = sum (reads x (Of the.Plus ∷ scalar_words scalar_place.Product y rest)).scalar (reads y rest).product; product = factor (group inside); factor = group inside }
reads (Two Sub x y) rest =
    let inside = difference (reads x (Of the.Minus ∷ scalar_words scalar_place.Product y (Of the.Close ∷ rest))).scalar (reads y (Of the.Close ∷ rest)).product in
    record { scalar = difference (reads x (Of the.Minus ∷ scalar_words scalar_place.Product y rest)).scalar (reads y rest).product; product = factor (group inside); factor = group inside }
reads (Two Mul x y) rest =
    let there = times (reads x (Of the.Star ∷ scalar_words scalar_place.Factor y rest)).product (reads y rest).factor in
    let inside = times (reads x (Of the.Star ∷ scalar_words scalar_place.Factor y (Of the.Close ∷ rest))).product (reads y (Of the.Close ∷ rest)).factor in
    record { scalar = product there; product = there; factor = group (product inside) }
reads (Two Min x y) rest =
    let it = least (reads x (Of the.Comma ∷ scalar_words scalar_place.Scalar y (Of the.Close ∷ rest))).scalar (reads y (Of the.Close ∷ rest)).scalar in
    as_factor (Two Min x y) rest it it it
reads (Two Max x y) rest =
    let it = greatest (reads x (Of the.Comma ∷ scalar_words scalar_place.Scalar y (Of the.Close ∷ rest))).scalar (reads y (Of the.Close ∷ rest)).scalar in
    as_factor (Two Max x y) rest it it it
