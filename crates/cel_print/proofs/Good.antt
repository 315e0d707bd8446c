-- Symbols that tokens are. No public clause cites it.
use Rattle.std.proofs.Common.{◌≡◌, ℕ, ◌≤◌, ◌<◌, ◌^◌, Bool, true, false, List, [], ◌∷◌, length}
use Rattle.std.specs.Str.{IsUtf8}
use Rattle.cel_lexer.specs.Bytes.{is_comment_byte, is_first, is_letter, is_word_byte}
use Rattle.cel_lexer.specs.Words.{is_keyword}
use Rattle.cel_grammar.specs.Symbols.{Symbol}
use Rattle.cel_grammar.specs.Symbols as the
use Rattle.cel_print.specs.Words.{Word, Of, symbols, within}
use Rattle.cel_print.proofs.Bytes.{passes}

-- a word that is a name
pub record IsName (a : List ℕ) : Type 0 where
  pub letter : is_first is_letter a ≡ true
  pub bytes : passes is_word_byte a ≡ true
  pub short : length a ≤ 64
  pub free : is_keyword a ≡ false

-- a symbol that a token is, but no semicolon
abbrev pub Good : Symbol → Type 0
Good (the.Name a) = IsName a
Good (the.Number n) = n < 2 ^ 127
Good (the.Decimal scale n) = (0 < scale) × (scale ≤ 18) × (n < 2 ^ 127)
Good (the.Quoted t) = (passes is_comment_byte t ≡ true) × IsUtf8 t
Good the.End = ⊥
Good t = Unit {0}

-- each of them is
abbrev pub AllGood : List Symbol → Type 0
AllGood [] = Unit {0}
AllGood (t ∷ ts) = Good t × AllGood ts

-- the words are, where what follows them is
abbrev pub Keeps : (List Word → List Word) → Type 0
Keeps words = (r : List Word) → AllGood (symbols r) → AllGood (symbols (words r))

-- so they are in parentheses
pub within_good : (bare : Bool) (f : List Word → List Word) → Keeps f → Keeps (within bare f)
within_good true f keeps r good = keeps r good
within_good false f keeps r good = (tt, keeps (Of the.Close ∷ r) (tt, good))
