-- Tokens whose bytes are whole characters.
use Rattle.std.proofs.Common.{◌≡◌, ℕ, zero, suc, List, [], ◌∷◌, ◌++◌, length, get_or, drop, ◌+◌, ◌-◌, ◌<◌, ◌≤◌, arith, add-zero}
use Rattle.std.specs.Prelude.{IsUtf8}
use Rattle.std.proofs.lemmas.Str.{IsCharBoundary-after_ascii, IsCharBoundary-before_ascii}
use Rattle.std.proofs.lemmas.List.{get_or-drop}
use Rattle.cel_lexer.specs.Listing.{AreSpans, IsSpan}
use Rattle.cel_lexer.specs.declared.token.Token.{Token}
use Rattle.cel_lexer.specs.declared.token.What.{What}

-- no tokens are spans of any text
pub spans-none : (s : List ℕ) → AreSpans s []
spans-none s k d h = absurd (omega arith)

-- spans with one more span are spans
pub spans-push : (s : List ℕ) (ts : List Token) (t : Token) → AreSpans s ts → IsSpan s t → AreSpans s (ts ++ t ∷ [])
spans-push s [] t old new zero d h = new
spans-push s [] t old new (suc k) d h = absurd (omega arith)
spans-push s (u ∷ ts) t old new zero d h = old 0 d (omega arith)
spans-push s (u ∷ ts) t old new (suc k) d h = spans-push s ts t (λ j e g. old (suc j) e (omega arith)) new k d (omega arith)

-- a token over a part of the text that isn't empty is a span
pub span-at : (s : List ℕ) (i n line : ℕ) (w : What) → IsUtf8 s → i + n ≤ length s → 0 < n
    → get_or (drop i s) 0 0 < 128 → get_or (drop i s) (n - 1) 0 < 128
    → IsSpan s (record { what = w; line = line; begin = i; end = i + n })
span-at s i n line w text le pos first last =
    let here : get_or s i 0 < 128 = rw (get_or-drop i s 0 0, add-zero) at first in
    let there : get_or s (i + (n - 1)) 0 < 128 = rw (get_or-drop i s (n - 1) 0) at last in
    let after = IsCharBoundary-after_ascii s (i + (n - 1)) text (omega arith) there in
    let place : i + (n - 1) + 1 ≡ i + n = omega arith in
    record { ordered = omega arith; begins = IsCharBoundary-before_ascii s i (omega arith) here; ends = rw place at after }
