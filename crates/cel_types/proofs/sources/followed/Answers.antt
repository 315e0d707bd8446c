use Rattle.std.proofs.lemmas.Result.{IfOk-weaker, err_from_is_err_and}
use Rattle.cel_types.specs.Sources.{next, next_condition, next_wide}
use Rattle.cel_types.proofs.sources.followed.Goals as goal

pub returns-in_err-schema-clause-err : goal.returns-in_err-schema-clause-err
returns-in_err-schema-clause-err c =
    let p = err_from_is_err_and c.from_residual.result c.from_residual.ensures.1 in
    rw (p.1, p.2) (λ known streams e f left right. let wide = c.in_err-schema.ensures.too_wide known in rw wide.1 (next_wide left right wide.0))

pub returns-in_err-condition-clause-err : goal.returns-in_err-condition-clause-err
returns-in_err-condition-clause-err c =
    let p = err_from_is_err_and c.from_residual-in_err-condition.result c.from_residual-in_err-condition.ensures.1 in
    rw (p.1, p.2) (λ known streams e f left right. next_condition left right c.in_ok-schema.ensures.narrow (c.in_err-condition.ensures.err known))

pub returns-clause-ok : goal.returns-clause-ok
returns-clause-ok c =
    let means = c.in_ok-condition.ensures.ok in
    IfOk-weaker c.with_type.result _ _ (λ t made streams e f left right. rw (made.0, made.1, c.in_ok-schema.ensures.ok, means.2) (next left right c.in_ok-schema.ensures.narrow means.1)) c.with_type.ensures.ok
