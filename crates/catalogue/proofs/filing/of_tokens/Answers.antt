use Rattle.std.proofs.Common.{subst, sym}
use Rattle.cel_lexer.specs.declared.fault.LexFault.{LexFault}
use Rattle.catalogue.specs.declared.fault.QueryFault.TheVariants as query
use Rattle.catalogue.specs.Faults.{IsOfTokens, not_utf8, bad_token, number}
use Rattle.catalogue.proofs.filing.of_tokens.Goals as goal

pub returns-in-NotUtf8 : goal.returns-in-NotUtf8
returns-in-NotUtf8 c = subst (λ (f : LexFault). IsOfTokens f c.in-NotUtf8.line query.NotUtf8) (sym c.in-NotUtf8.is) not_utf8

pub returns-in-BadToken : goal.returns-in-BadToken
returns-in-BadToken c = subst (λ (f : LexFault). IsOfTokens f c.in-BadToken.line query.BadToken) (sym c.in-BadToken.is) bad_token

pub returns-in-NumberPast128 : goal.returns-in-NumberPast128
returns-in-NumberPast128 c = subst (λ (f : LexFault). IsOfTokens f c.in-NumberPast128.line query.NumberPast128) (sym c.in-NumberPast128.is) number
