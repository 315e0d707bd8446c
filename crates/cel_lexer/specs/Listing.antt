-- What contracts see of `Tokens`.
use Rattle.std.specs.Prelude.{ℕ, ◌≤◌, ◌<◌, List, [], ◌∷◌, length, slice_index_or, slice_range}
use Rattle.std.specs.Str.{IsCharBoundary}
use Rattle.cel_lexer.specs.declared.token.Token.{Token}

-- a source and the tokens over it, in their order
pub record Listing : Type 0 where
  pub source : List ℕ
  pub items : List Token

-- the bytes of a token in its source
abbrev pub spelling : List ℕ → Token → List ℕ
spelling source token = slice_range source token.begin token.end

-- a token's bytes are whole characters of the source
pub record IsSpan (source : List ℕ) (token : Token) : Type 0 where
  pub ordered : token.begin ≤ token.end
  pub begins : IsCharBoundary source token.begin
  pub ends : IsCharBoundary source token.end

-- the tokens stand one behind another between two places, each with a byte at least
abbrev pub Ascend : ℕ → ℕ → List Token → Type 0
Ascend low high [] = Unit {0}
Ascend low high (token ∷ tokens) =
    (low ≤ token.begin) × (token.begin < token.end) × (token.end ≤ high) × Ascend token.end high tokens

-- each of the tokens has whole characters of the source
abbrev pub AreSpans : List ℕ → List Token → Type 0
AreSpans source items = (k : ℕ) (d : Token) → k < length items → IsSpan source (slice_index_or items k d)
