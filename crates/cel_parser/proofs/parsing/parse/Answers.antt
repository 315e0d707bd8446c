use Rattle.std.proofs.Common.{◌∷◌, [], arith, ap, length, length-append}
use Rattle.std.proofs.lemmas.Result.{err_from_is_err_and}
use Rattle.cel_parser.specs.Cutting.{left_at}
use Rattle.cel_parser.proofs.CutLemmas.{left-none}
use Rattle.cel_parser.proofs.PassedLemmas.{faulty, passed-all, read}
use Rattle.cel_parser.proofs.parsing.parse.Goals as goal

pub returns-in_err-statement-clause-err : goal.returns-in_err-statement-clause-err
returns-in_err-statement-clause-err c =
    let p = err_from_is_err_and c.from_residual.result c.from_residual.ensures.1 in
    rw (p.1, p.2) (λ other.
    record {
      tokens = c.args.tokens.now.items;
      all = c.size.ensures.all;
      explained = faulty (left_at c.args.tokens.now 0) _ c.loop-at.statements c.loop-at.lines c.loop-at.invariant.passed _ _ (omega (arith, c.len.ensures)) (c.in_err-statement.ensures.err other);
    })

pub loop-at-preserved : goal.loop-at-preserved
loop-at-preserved c = record {
  within = c.in_ok-statement.ensures.within;
  fewer = omega (arith, ap length c.in_ok-add.ensures.ok, length-append c.loop-at.statements (c.in_ok-statement.statement ∷ []), c.loop-at.invariant.fewer, c.in_ok-statement.ensures.further);
  passed = rw (c.in_ok-add.ensures.ok, c.in_ok-add-2.ensures.ok) (read (left_at c.args.tokens.now 0) _ c.loop-at.statements c.loop-at.lines c.loop-at.invariant.passed _ c.in_ok-statement.statement _ c.in_ok-statement.ensures.ok);
}

pub of-requires : goal.of-requires
of-requires c =
    let end = left-none c.args.tokens.now c.loop-at.at (omega (arith, c.loop-at-test.false, c.size.ensures.value)) in
    let passed = rw end at c.loop-at.invariant.passed in
    record { text = c.args.tokens.now.source; reads = record { tokens = c.args.tokens.now.items; all = c.size.ensures.all; said = passed-all _ _ _ passed } }

pub returns-clause-ok : goal.returns-clause-ok
returns-clause-ok c =
    let end = left-none c.args.tokens.now c.loop-at.at (omega (arith, c.loop-at-test.false, c.size.ensures.value)) in
    let passed = rw end at c.loop-at.invariant.passed in
    rw (c.of.ensures.statements, c.of.ensures.lines) (record { tokens = c.args.tokens.now.items; all = c.size.ensures.all; said = passed-all _ _ _ passed })
