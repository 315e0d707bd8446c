use Rattle.std.proofs.Common.{◌≤◌, ℕ, length, subst, sym, arith}
use Rattle.catalogue.specs.declared.fault.QueryFault.TheVariants as query
use Rattle.catalogue.specs.Adding.{FailsAsOneQuery}
use Rattle.catalogue.specs.Adding as adding
use Rattle.catalogue.specs.Filing.{most_bytes}
use Rattle.catalogue.proofs.JudgeLemmas.{one_in_syntax, one_in_tokens}
use Rattle.catalogue.proofs.filing.query_of.Goals as goal

-- the text is too long
pub returns-then-text-gt-MOST-clause-err : goal.returns-then-text-gt-MOST-clause-err
returns-then-text-gt-MOST-clause-err c = subst (λ (line : ℕ). FailsAsOneQuery c.args.text.now line query.TooLong) (sym c.last_line.ensures) (adding.long (omega arith))

-- its statements aren't one query
pub returns-in-Ok-clause-err : goal.returns-in-Ok-clause-err
returns-in-Ok-clause-err c =
    let short : length c.args.text.now ≤ most_bytes = omega arith in
    one_in_syntax c.args.text.now c.in-Ok.tokens.source c.in-Err-parse_one.fault c.of_syntax.result c.in-Ok.ensures.source short c.in-Err-parse_one.ensures.err c.of_syntax.ensures

-- its tokens have a fault
pub returns-clause-err : goal.returns-clause-err
returns-clause-err c =
    let short : length c.args.text.now ≤ most_bytes = omega arith in
    one_in_tokens c.args.text.now c.in-Err.fault c.of_tokens.result short c.in-Err.ensures.err c.of_tokens.ensures
