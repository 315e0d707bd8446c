-- The words of a text are cut off one after another. No public clause cites it.
use Rattle.std.proofs.Common.{◌≡◌, ◌∙◌, ℕ, suc, ◌+◌, ◌-◌, true, false, List, [], ◌∷◌, ◌++◌, length, map, take, drop, refl, ap, arith, length-append, add-zero}
use Rattle.std.specs.Prelude.{Ok, slice_range}
use Rattle.std.proofs.Math.Seq.{take-append_seam}
use Rattle.std.proofs.lemmas.Bool.Decides.{nat_tests}
use Rattle.cel_lexer.specs.Bytes.{is_comment_byte, is_line_feed}
use Rattle.cel_lexer.specs.Listing.{spelling}
use Rattle.cel_lexer.specs.Tokens.{Lexed, before, line_after, tokens_from}
use Rattle.cel_lexer.specs.declared.token.Token.{Token}
use Rattle.cel_grammar.specs.Symbols.{Symbol}
use Rattle.cel_grammar.specs.Sentences.{Placed}
use Rattle.cel_grammar.specs.Spellings.{symbol_of}
use Rattle.cel_print.proofs.Bytes.{drop_front, passes, both_true}
use Rattle.cel_print.proofs.Pieces.{IsCut}

-- a token as a symbol with its line
abbrev pub placed : List ℕ → Token → Placed
placed source token = record { line = token.line; symbol = symbol_of token.what (spelling source token) }

-- the rest of a source, from this line and place on, is cut into these symbols
pub record Cut (source : List ℕ) (line at : ℕ) (text : List ℕ) (words : List Placed) : Type 0 where
  pub tokens : List Token
  pub all : tokens_from 0 line at text ≡ Ok tokens
  pub seen : map (placed source) tokens ≡ words

-- no byte of a token ends its line
same_line : (b line : ℕ) → is_comment_byte b ≡ true → line_after b line ≡ line
same_line b line h = let e : is_line_feed b ≡ false = grind (arith, nat_tests) in rw e refl

-- the bytes of a token are passed over
skip : (u tail : List ℕ) (line at : ℕ) → passes is_comment_byte u ≡ true → tokens_from (length u) line at (u ++ tail) ≡ tokens_from 0 line (at + length u) tail
unfolding tokens_from
skip [] tail line at h = rw add-zero refl
skip (b ∷ u) tail line at h =
    let parts = both_true (is_comment_byte b) (passes is_comment_byte u) h in
    let place : at + 1 + length u ≡ at + suc (length u) = omega arith in
    ap (λ (k : ℕ). tokens_from (length u) k (at + 1) (u ++ tail)) (same_line b line parts.0)
    ∙ skip u tail line (at + 1) parts.1 ∙ ap (λ (k : ℕ). tokens_from 0 line k tail) place

-- a slice behind the front
pub slice_is : (source front s : List ℕ) (n : ℕ) → source ≡ front ++ s → slice_range source (length front) (length front + n) ≡ take n s
slice_is source front s n e =
    let size : length front + n - length front ≡ n = omega arith in
    rw (size, e, drop_front front s) refl

-- a token at the front
pub token_first : (source front : List ℕ) (symbol : Symbol) (u tail : List ℕ) (line : ℕ) (words : List Placed) → source ≡ front ++ (u ++ tail) → IsCut symbol u tail → Cut source line (length (front ++ u)) tail words → Cut source line (length front) (u ++ tail) (record { line = line; symbol = symbol } ∷ words)
unfolding tokens_from
token_first source front symbol [] tail line words e is cut = absurd (omega (arith, is.some))
token_first source front symbol (b ∷ u) tail line words e is cut =
    let parts = both_true (is_comment_byte b) (passes is_comment_byte u) is.line in
    let size : length (b ∷ u) - 1 ≡ length u = omega arith in
    let place : length front + 1 + length u ≡ length (front ++ (b ∷ u)) = omega (arith, length-append front (b ∷ u)) in
    let token : Token = record { what = is.kind; line = line; begin = length front; end = length front + length (b ∷ u) } in
    let bytes : spelling source token ≡ b ∷ u = slice_is source front ((b ∷ u) ++ tail) (length (b ∷ u)) e ∙ take-append_seam (b ∷ u) tail in
    let follows : ℕ → Lexed = λ n. tokens_from n (line_after b line) (length front + 1) (u ++ tail) in
    record {
      tokens = token ∷ cut.tokens;
      all =
          is.piece line (length front) follows
          ∙ ap (λ (n : ℕ). before token (follows n)) size
          ∙ ap (λ (k : ℕ). before token (tokens_from (length u) k (length front + 1) (u ++ tail))) (same_line b line parts.0)
          ∙ ap (before token) (skip u tail line (length front + 1) parts.1)
          ∙ ap (λ (k : ℕ). before token (tokens_from 0 line k tail)) place
          ∙ ap (before token) cut.all;
      seen = ap (λ (s : List ℕ). record { line = line; symbol = symbol_of is.kind s } ∷ map (placed source) cut.tokens) bytes ∙ ap (λ (s : Symbol). record { line = line; symbol = s } ∷ map (placed source) cut.tokens) is.stands ∙ ap (λ (w : List Placed). record { line = line; symbol = symbol } ∷ w) cut.seen;
    }

-- a space at the front
pub blank_first : (source : List ℕ) (line at : ℕ) (rest : List ℕ) (words : List Placed) → Cut source line (at + 1) rest words → Cut source line at (32 ∷ rest) words
unfolding tokens_from
blank_first source line at rest words cut = record { tokens = cut.tokens; all = cut.all; seen = cut.seen }

-- a line feed at the front
pub feed_first : (source : List ℕ) (line at : ℕ) (rest : List ℕ) (words : List Placed) → Cut source (line + 1) (at + 1) rest words → Cut source line at (10 ∷ rest) words
unfolding tokens_from
feed_first source line at rest words cut = record { tokens = cut.tokens; all = cut.all; seen = cut.seen }
