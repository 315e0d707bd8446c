-- What a text reads as, by whether it is UTF-8.
use Rattle.std.proofs.Common.{◌≡◌, ℕ, Bool, false, List, ap, inl, inr}
use Rattle.std.specs.Prelude.{Err, IsUtf8, if◌then◌else◌}
use Rattle.std.specs.Str.{is_utf8}
use Rattle.std.proofs.lemmas.Bool.{cases_Bool}
use Rattle.std.proofs.lemmas.Str.{IsUtf8-from_is_utf8, is_utf8-from_IsUtf8}
use Rattle.cel_lexer.specs.Faults.{broken_line, tokens_of}
use Rattle.cel_lexer.specs.Tokens.{Lexed, tokens_behind_mark}
use Rattle.cel_lexer.specs.declared.fault.LexFault.TheVariants as fault

by_test : List ℕ → Bool → Lexed
by_test text b = if b then tokens_behind_mark text else Err (fault.NotUtf8 (broken_line text))

-- a text that is UTF-8 has the tokens behind its mark
pub tokens_of-utf8 : (text : List ℕ) → IsUtf8 text → tokens_of text ≡ tokens_behind_mark text
unfolding by_test
tokens_of-utf8 text utf8 = ap (by_test text) (is_utf8-from_IsUtf8 text utf8)

not_utf8 : (text : List ℕ) → ¬ (IsUtf8 text) → is_utf8 text ≡ false
not_utf8 text broken = elim (cases_Bool (is_utf8 text)) [
  | inl whole ↦ absurd (broken (IsUtf8-from_is_utf8 text whole))
  | inr cut ↦ cut
]

-- one that isn't is refused on the line of its first broken byte
pub tokens_of-broken : (text : List ℕ) → ¬ (IsUtf8 text) → tokens_of text ≡ Err (fault.NotUtf8 (broken_line text))
unfolding by_test
tokens_of-broken text broken = ap (by_test text) (not_utf8 text broken)
