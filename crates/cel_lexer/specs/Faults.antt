-- What a text of any bytes reads as.
use Rattle.std.specs.Prelude.{◌≡◌, ℕ, ◌+◌, List, take, count_by, if◌then◌else◌, Ok, Err}
use Rattle.std.specs.Str.{is_utf8}
use Rattle.std.specs.Str.Lossy.{utf8_valid_len}
use Rattle.cel_lexer.specs.Bytes.{is_line_feed}
use Rattle.cel_lexer.specs.Listing.{AreSpans}
use Rattle.cel_lexer.specs.Tokens.{Lexed, tokens_behind_mark}
use Rattle.cel_lexer.specs.declared.token.Token.{Token}
use Rattle.cel_lexer.specs.declared.fault.LexFault.TheVariants as fault

-- the line of the first byte that does not continue UTF-8, or of the text's end where that cuts a character:
-- no character holds a line feed beside other bytes, so the line is that of the last place up to which all is UTF-8
abbrev pub broken_line : List ℕ → ℕ
broken_line text = count_by is_line_feed (take (utf8_valid_len text) text) + 1

-- the tokens of a text, or its first fault: that it is not UTF-8, before any other
abbrev pub tokens_of : List ℕ → Lexed
tokens_of text = if is_utf8 text then tokens_behind_mark text else Err (fault.NotUtf8 (broken_line text))

-- these are the tokens of the source, all of them, and each has whole characters of it
pub record AreTokens (source : List ℕ) (items : List Token) : Type 0 where
  pub all : tokens_of source ≡ Ok items
  pub spans : AreSpans source items
