-- What a canonical text is made of, before its spaces.
use Rattle.std.specs.Prelude.{ℕ, Bool, true, false, List, [], ◌∷◌}
use Rattle.cel_grammar.specs.Symbols.{Symbol}
use Rattle.cel_grammar.specs.Symbols as the

-- a word: a symbol, or a negative number or decimal with its minus
pub data Word : Type 0 where
  Of : Symbol → Word
  Negative : ℕ → Word
  NegativeDecimal : ℕ → ℕ → Word

-- the symbols of some words: a negative number is a minus and its number, and so is a negative decimal
abbrev pub symbols : List Word → List Symbol
symbols [] = []
symbols (Of symbol ∷ words) = symbol ∷ symbols words
symbols (Negative n ∷ words) = the.Minus ∷ the.Number n ∷ symbols words
symbols (NegativeDecimal scale n ∷ words) = the.Minus ∷ the.Decimal scale n ∷ symbols words

-- these words, and then rest: in parentheses unless they may stand there as they are
abbrev pub within : Bool → (List Word → List Word) → List Word → List Word
within true words rest = words rest
within false words rest = Of the.Open ∷ words (Of the.Close ∷ rest)
