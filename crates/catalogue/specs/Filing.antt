-- What a text of any bytes is read as, or why it is no file.
use Rattle.std.specs.Prelude.{◌≡◌, ◌+◌, ◌<◌, ◌≤◌, ℕ, List, length, take, count_by, Err}
use Rattle.cel_lexer.specs.Bytes.{is_line_feed}
use Rattle.cel_lexer.specs.Faults.{tokens_of}
use Rattle.cel_lexer.specs.declared.fault.LexFault.{LexFault}
use Rattle.cel_grammar.specs.Sentences.{ReadsAs}
use Rattle.cel_grammar.specs.Trees.{Statement}
use Rattle.cel_parser.specs.Faults.{HasSyntaxFault}
use Rattle.cel_parser.specs.declared.fault.SyntaxFault.{SyntaxFault}
use Rattle.catalogue.specs.declared.fault.QueryFault.{QueryFault}
use Rattle.catalogue.specs.declared.fault.QueryFault.TheVariants.{TooLong}
use Rattle.catalogue.specs.Faults.{IsOfSyntax, IsOfTokens}

-- the greatest number of bytes of a query text
abbrev pub most_bytes : ℕ
most_bytes = 1048576

-- the text is short enough, and reads as these statements on these lines
pub record IsFileWithinLimit (text : List ℕ) (statements : List Statement) (lines : List ℕ) : Type 0 where
  pub short : length text ≤ most_bytes
  pub reads : ReadsAs text statements lines

-- the text is too long, on the line at which it passes the limit; or its tokens have a fault; or its statements
pub data FailsAsFile (text : List ℕ) : ℕ → QueryFault → Type 0 where
  long : most_bytes < length text → FailsAsFile text (count_by is_line_feed (take most_bytes text) + 1) TooLong
  tokens : {f : LexFault} {line : ℕ} {why : QueryFault} → length text ≤ most_bytes → tokens_of text ≡ Err f → IsOfTokens f line why → FailsAsFile text line why
  syntax : {f : SyntaxFault} {line : ℕ} {why : QueryFault} → length text ≤ most_bytes → HasSyntaxFault text f → IsOfSyntax f line why → FailsAsFile text line why
