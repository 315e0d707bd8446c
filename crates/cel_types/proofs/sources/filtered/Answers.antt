use Rattle.std.proofs.lemmas.Result.{IfOk-weaker, err_from_is_err_and}
use Rattle.cel_types.specs.Sources.{filter, filter_condition}
use Rattle.cel_types.proofs.sources.filtered.Goals as goal

pub returns-in_err-condition-clause-err : goal.returns-in_err-condition-clause-err
returns-in_err-condition-clause-err c =
    let p = err_from_is_err_and c.from_residual.result c.from_residual.ensures.1 in
    rw (p.1, p.2) (λ known streams e typed. filter_condition typed (c.in_err-condition.ensures.err known))

pub returns-clause-ok : goal.returns-clause-ok
returns-clause-ok c =
    let means = c.in_ok-condition.ensures.ok in
    IfOk-weaker c.with_type.result _ _ (λ t made streams e typed. rw (made.0, made.1, means.2) (filter typed means.1)) c.with_type.ensures.ok
