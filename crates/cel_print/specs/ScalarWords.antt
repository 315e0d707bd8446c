-- The canonical words of scalars. Parentheses stand exactly where another scalar would be read without them.
use Rattle.std.specs.Prelude.{ℕ, suc, ℤ, pos, negsuc, Bool, true, false, List, ◌∷◌}
use Rattle.cel_grammar.specs.declared.mark.Mark.{Mark}
use Rattle.cel_grammar.specs.declared.mark.Mark.TheVariants as mark
use Rattle.cel_grammar.specs.Symbols as the
use Rattle.cel_grammar.specs.Trees.{Add, Sub, Mul, Min, Max, Scalar, Number, Quoted, Attr, Dur, Two, Decimal}
use Rattle.cel_print.specs.declared.places.ScalarPlace.TheVariants as scalar_place
use Rattle.cel_print.specs.declared.places.ScalarPlace.{ScalarPlace}
use Rattle.cel_print.specs.Words.{Word, Of, Negative, NegativeDecimal, within}

-- a sum or a difference may stand there as it is
abbrev pub takes_sum : ScalarPlace → Bool
takes_sum scalar_place.Scalar = true
takes_sum scalar_place.Product = false
takes_sum scalar_place.Factor = false

-- a product may stand there as it is
abbrev pub takes_product : ScalarPlace → Bool
takes_product scalar_place.Scalar = true
takes_product scalar_place.Product = true
takes_product scalar_place.Factor = false

-- a number, and then rest
abbrev pub number_words : ℤ → List Word → List Word
number_words (pos n) rest = Of (the.Number n) ∷ rest
number_words (negsuc n) rest = Negative (suc n) ∷ rest

-- a decimal, and then rest
abbrev pub decimal_words : ℕ → ℤ → List Word → List Word
decimal_words scale (pos n) rest = Of (the.Decimal scale n) ∷ rest
decimal_words scale (negsuc n) rest = NegativeDecimal scale (suc n) ∷ rest

-- an attribute with its mark, and then rest
abbrev pub attribute_words : Mark → List ℕ → List Word → List Word
attribute_words mark.Bare name rest = Of (the.Name name) ∷ rest
attribute_words mark.First name rest = Of the.Dollar1 ∷ Of the.Dot ∷ Of (the.Name name) ∷ rest
attribute_words mark.Second name rest = Of the.Dollar2 ∷ Of the.Dot ∷ Of (the.Name name) ∷ rest
attribute_words mark.So name rest = Of the.Dollar ∷ Of the.Dot ∷ Of (the.Name name) ∷ rest

-- a scalar at this place, and then rest
abbrev pub scalar_words : ScalarPlace → Scalar → List Word → List Word
scalar_words place (Number n) rest = number_words n rest
scalar_words place (Quoted text) rest = Of (the.Quoted text) ∷ rest
scalar_words place (Attr m name) rest = attribute_words m name rest
scalar_words place Dur rest = Of the.Dur ∷ rest
scalar_words place (Decimal scale units) rest = decimal_words scale units rest
scalar_words place (Two Add x y) rest = within (takes_sum place) (λ end. scalar_words scalar_place.Scalar x (Of the.Plus ∷ scalar_words scalar_place.Product y end)) rest
scalar_words place (Two Sub x y) rest = within (takes_sum place) (λ end. scalar_words scalar_place.Scalar x (Of the.Minus ∷ scalar_words scalar_place.Product y end)) rest
scalar_words place (Two Mul x y) rest = within (takes_product place) (λ end. scalar_words scalar_place.Product x (Of the.Star ∷ scalar_words scalar_place.Factor y end)) rest
scalar_words place (Two Min x y) rest = Of the.Min ∷ Of the.Open ∷ scalar_words scalar_place.Scalar x (Of the.Comma ∷ scalar_words scalar_place.Scalar y (Of the.Close ∷ rest))
scalar_words place (Two Max x y) rest = Of the.Max ∷ Of the.Open ∷ scalar_words scalar_place.Scalar x (Of the.Comma ∷ scalar_words scalar_place.Scalar y (Of the.Close ∷ rest))
