use Rattle.std.proofs.Common.{arith, refl, subst, sym}
use Rattle.std.proofs.lemmas.Result.{err_from_is_err_and}
use Rattle.cel_grammar.specs.Views.{statement_of}
use Rattle.cel_parser.specs.Cutting.{left_at}
use Rattle.cel_parser.specs.OneQuery.{AreNotOneQuery, none}
use Rattle.cel_parser.specs.declared.fault.SyntaxFault.TheVariants as fault
use Rattle.cel_parser.proofs.CutLemmas.{left-none}
use Rattle.cel_parser.proofs.QueryLemmas.{begins-alone, begins-faulty, begins-not_alone}
use Rattle.cel_parser.proofs.one_query.parse_one.Goals as goal

pub returns-then-size-eq0-clause-err : goal.returns-then-size-eq0-clause-err
returns-then-size-eq0-clause-err c _ =
    let empty = left-none c.args.tokens.now 0 (omega (arith, c.size.ensures.value, c.if-size-eq0.true)) in
    record {
      tokens = c.args.tokens.now.items;
      all = c.size.ensures.all;
      explained = subst (λ all. AreNotOneQuery all (fault.BadStatement 1 1)) (sym empty) none;
    }

pub returns-in_err-statement-clause-err : goal.returns-in_err-statement-clause-err
returns-in_err-statement-clause-err c =
    let p = err_from_is_err_and c.from_residual.result c.from_residual.ensures.1 in
    rw (p.1, p.2) (λ other.
    record {
      tokens = c.args.tokens.now.items;
      all = c.size.ensures.all;
      explained = begins-faulty (left_at c.args.tokens.now 0) _ (c.in_err-statement.ensures.err other);
    })

pub returns-in-None-clause-ok : goal.returns-in-None-clause-ok
returns-in-None-clause-ok c =
    let alone = c.in-None.ensures.none refl in
    let said = begins-alone (left_at c.args.tokens.now 0) _ _ (statement_of c.in_ok-statement.statement) c.in_ok-statement.ensures.ok (left-none c.args.tokens.now c.in_ok-statement.next alone.1) in
    record { reads = record { tokens = c.args.tokens.now.items; all = c.size.ensures.all; said = said }; query = alone.0 }

pub returns-clause-err : goal.returns-clause-err
returns-clause-err c other = record {
  tokens = c.args.tokens.now.items;
  all = c.size.ensures.all;
  explained = begins-not_alone (left_at c.args.tokens.now 0) _ _ (statement_of c.in_ok-statement.statement) c.in_ok-statement.ensures.ok _ (c.in-Some.ensures.some other);
}
