use Rattle.std.proofs.Common.{subst, sym}
use Rattle.cel_parser.specs.declared.fault.SyntaxFault.{SyntaxFault}
use Rattle.catalogue.specs.declared.fault.QueryFault.TheVariants as query
use Rattle.catalogue.specs.Faults.{IsOfSyntax, many, deep, bad}
use Rattle.catalogue.proofs.filing.of_syntax.Goals as goal

pub returns-in-TooManyTokens : goal.returns-in-TooManyTokens
returns-in-TooManyTokens c = subst (λ (f : SyntaxFault). IsOfSyntax f c.in-TooManyTokens.line (query.TooManyTokens c.in-TooManyTokens.number)) (sym c.in-TooManyTokens.is) many

pub returns-in-TooDeep : goal.returns-in-TooDeep
returns-in-TooDeep c = subst (λ (f : SyntaxFault). IsOfSyntax f c.in-TooDeep.line (query.TooDeep c.in-TooDeep.number)) (sym c.in-TooDeep.is) deep

pub returns-in-BadStatement : goal.returns-in-BadStatement
returns-in-BadStatement c = subst (λ (f : SyntaxFault). IsOfSyntax f c.in-BadStatement.line (query.BadStatement c.in-BadStatement.number)) (sym c.in-BadStatement.is) bad
