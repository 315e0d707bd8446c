-- The faults of the layers as faults of a file.
use Rattle.std.proofs.Common.{◌≡◌, ◌≢◌, ℕ, ◌≤◌, List, length, subst}
use Rattle.std.specs.Prelude.{Err}
use Rattle.cel_lexer.specs.Faults.{tokens_of}
use Rattle.cel_lexer.specs.declared.fault.LexFault.{LexFault}
use Rattle.cel_lexer.specs.declared.fault.LexFault.TheVariants as lex
use Rattle.cel_parser.specs.Faults.{HasSyntaxFault}
use Rattle.cel_parser.specs.declared.fault.SyntaxFault.{SyntaxFault}
use Rattle.cel_parser.specs.declared.fault.SyntaxFault.TheVariants as syntax_fault
use Rattle.catalogue.specs.declared.fault.LoadFault.{LoadFault}
use Rattle.catalogue.specs.declared.fault.LoadFault.TheVariants.{Bad, Cycle, Memory}
use Rattle.catalogue.specs.declared.fault.QueryFault.{QueryFault}
use Rattle.catalogue.specs.Faults.{IsOfSyntax, IsOfTokens, not_utf8, bad_token, number, many, deep, bad}
use Rattle.catalogue.specs.Filing.{FailsAsFile, most_bytes, syntax, tokens}
use Rattle.catalogue.specs.Telling.{TellsBad}

pub tokens_told : {f : LexFault} {line : ℕ} {why : QueryFault} → IsOfTokens f line why → f ≢ lex.Memory
tokens_told not_utf8 e = cc
tokens_told bad_token e = cc
tokens_told number e = cc

pub syntax_told : {f : SyntaxFault} {line : ℕ} {why : QueryFault} → IsOfSyntax f line why → f ≢ syntax_fault.Memory
syntax_told many e = cc
syntax_told deep e = cc
syntax_told bad e = cc

-- a fault of tokens
pub fails_in_tokens : (text : List ℕ) (f : LexFault) (told : LoadFault) → length text ≤ most_bytes → (f ≢ lex.Memory → tokens_of text ≡ Err f) → TellsBad (IsOfTokens f) told → TellsBad (FailsAsFile text) told
fails_in_tokens text f (Bad line why) short is of = tokens short (is (tokens_told of)) of
fails_in_tokens text f (Cycle names) short is of = of
fails_in_tokens text f Memory short is of = tt

-- a fault of statements
pub fails_in_syntax : (text source : List ℕ) (f : SyntaxFault) (told : LoadFault) → source ≡ text → length text ≤ most_bytes → (f ≢ syntax_fault.Memory → HasSyntaxFault source f) → TellsBad (IsOfSyntax f) told → TellsBad (FailsAsFile text) told
fails_in_syntax text source f (Bad line why) same short is of = syntax short (subst (λ (t : List ℕ). HasSyntaxFault t f) same (is (syntax_told of))) of
fails_in_syntax text source f (Cycle names) same short is of = of
fails_in_syntax text source f Memory same short is of = tt
