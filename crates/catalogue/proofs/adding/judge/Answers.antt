use Rattle.std.proofs.lemmas.Result.{IfErr-weaker, IfOk-weaker, err_from_is_err_and}
use Rattle.expressions.specs.Views.{ex_of}
use Rattle.cel_grammar.specs.Views.{statement_of}
use Rattle.catalogue.specs.Adding as adding
use Rattle.catalogue.proofs.JudgeLemmas.{one_few, refused_as_statement, refused_as_text}
use Rattle.catalogue.proofs.adding.judge.Goals as goal

-- the text isn't one query
pub returns-in_err-one-clause-err : goal.returns-in_err-one-clause-err
returns-in_err-one-clause-err c =
    let p = err_from_is_err_and c.from_residual.result c.from_residual.ensures.1 in
    rw (p.1, p.2) (refused_as_text c.args.streams.now c.args.text.now _ c.in_err-one.ensures.err)

-- it is taken
pub returns-clause-ok : goal.returns-clause-ok
returns-clause-ok c = IfOk-weaker c.type_one.result _ _ (λ query h. adding.one c.in_ok-one.ensures.short c.in_ok-one.ensures.ok h) c.type_one.ensures.ok

-- and may be added
pub returns-clause-fit : goal.returns-clause-fit
returns-clause-fit c =
    IfOk-weaker c.type_one.result _ _ (λ query h. h (one_few c.args.streams.now c.args.text.now (statement_of c.in_ok-one.one.statement) c.in_ok-one.one.line query.schema (ex_of query.expr) c.in_ok-one.ensures.ok)) c.type_one.ensures.fit

-- its statement has a fault
pub returns-clause-err : goal.returns-clause-err
returns-clause-err c =
    IfErr-weaker c.type_one.result _ _ (λ fault h. refused_as_statement c.args.streams.now c.args.text.now (statement_of c.in_ok-one.one.statement) c.in_ok-one.one.line fault c.in_ok-one.ensures.short c.in_ok-one.ensures.ok h) c.type_one.ensures.err
