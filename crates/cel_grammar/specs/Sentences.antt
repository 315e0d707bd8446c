-- A query text as sentences: what stands up to each semicolon. A text reads as a file where each of its
-- sentences is a statement within the limits.
use Rattle.std.specs.Prelude.{◌≡◌, ℕ, ◌+◌, ◌-◌, ◌≤◌, Bool, true, false, ◌||◌, nat_lt, List, [], ◌∷◌, map, length, Ok}
use Rattle.cel_lexer.specs.Faults.{tokens_of}
use Rattle.cel_lexer.specs.Listing.{Listing, spelling}
use Rattle.cel_lexer.specs.declared.token.Token.{Token}
use Rattle.cel_grammar.specs.Symbols.{Symbol}
use Rattle.cel_grammar.specs.Symbols as the
use Rattle.cel_grammar.specs.Spellings.{symbol_of}
use Rattle.cel_grammar.specs.Statements.{IsStatement}
use Rattle.cel_grammar.specs.Trees.{Statement}

-- a symbol and the line on which it begins
pub record Placed : Type 0 where
  pub line : ℕ
  pub symbol : Symbol

-- the symbols of the tokens of a text, each with its line
unfoldable pub placed_of : Listing → List Placed
placed_of listing = map (λ token. record { line = token.line; symbol = symbol_of token.what (spelling listing.source token) }) listing.items

-- what stands up to a semicolon: its symbols without it, the line of the first one, or of the semicolon where it has no other, and whether the semicolon is there
pub record Sentence : Type 0 where
  pub line : ℕ
  pub symbols : List Symbol
  pub ended : Bool

-- the sentences with one more symbol, which is no semicolon, before them: it belongs to the first one, and where there are none, it begins one without a semicolon
abbrev pub with_front : Placed → List Sentence → List Sentence
with_front placed [] = record { line = placed.line; symbols = placed.symbol ∷ []; ended = false } ∷ []
with_front placed (s ∷ ss) = record { line = placed.line; symbols = placed.symbol ∷ s.symbols; ended = s.ended } ∷ ss

-- the sentences with one more symbol before them: a semicolon is a sentence's end
abbrev pub with_symbol : Symbol → Placed → List Sentence → List Sentence
with_symbol the.End placed ss = record { line = placed.line; symbols = []; ended = true } ∷ ss
with_symbol symbol placed ss = with_front placed ss

-- the sentences of some symbols; only the last one may lack its semicolon
abbrev pub sentences : List Placed → List Sentence
sentences [] = []
sentences (placed ∷ rest) = with_symbol placed.symbol placed (sentences rest)

-- whether more than 64 parentheses and braces are open at some symbol, where so many are open before: each opening one adds one, each closing one takes one away, not below 0
abbrev pub is_deep : ℕ → List Symbol → Bool
is_deep depth [] = false
is_deep depth (the.Open ∷ ts) = nat_lt 64 (depth + 1) || is_deep (depth + 1) ts
is_deep depth (the.BraceOpen ∷ ts) = nat_lt 64 (depth + 1) || is_deep (depth + 1) ts
is_deep depth (the.Close ∷ ts) = is_deep (depth - 1) ts
is_deep depth (the.BraceClose ∷ ts) = is_deep (depth - 1) ts
is_deep depth (t ∷ ts) = is_deep depth ts

-- at most 1,024 symbols, of which none is nested more than 64 deep
pub record IsSmall (ts : List Symbol) : Type 0 where
  pub few : length ts ≤ 1024
  pub shallow : is_deep 0 ts ≡ false

-- the sentence is this statement: it ends with a semicolon, is within the limits and is read so
pub record IsSentenceOf (sentence : Sentence) (statement : Statement) : Type 0 where
  pub ended : sentence.ended ≡ true
  pub small : IsSmall sentence.symbols
  pub read : IsStatement sentence.symbols statement []

-- the sentences are these statements, which begin on these lines
pub data AreSentencesOf : List Sentence → List Statement → List ℕ → Type 0 where
  none : AreSentencesOf [] [] []
  more : {sentence : Sentence} {later : List Sentence} {s : Statement} {ss : List Statement} {lines : List ℕ} → IsSentenceOf sentence s → AreSentencesOf later ss lines → AreSentencesOf (sentence ∷ later) (s ∷ ss) (sentence.line ∷ lines)

-- the text reads as these statements, which begin on these lines
pub record ReadsAs (text : List ℕ) (statements : List Statement) (lines : List ℕ) : Type 0 where
  pub tokens : List Token
  pub all : tokens_of text ≡ Ok tokens
  pub said : AreSentencesOf (sentences (placed_of (record { source = text; items = tokens }))) statements lines
