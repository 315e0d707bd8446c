use Rattle.std.proofs.lemmas.Result.{IfOk-weaker, err_from_is_err_and}
use Rattle.cel_types.specs.Sources.{fold, fold_choose, fold_on, fold_sets}
use Rattle.cel_types.proofs.sources.folded.Goals as goal

pub returns-in_err-choose-clause-err : goal.returns-in_err-choose-clause-err
returns-in_err-choose-clause-err c =
    let p = err_from_is_err_and c.from_residual.result c.from_residual.ensures.1 in
    rw (p.1, p.2) (λ known streams e f left right. fold_choose left right (c.in_err-choose.ensures.err known))

pub returns-in_err-on-clause-err : goal.returns-in_err-on-clause-err
returns-in_err-on-clause-err c =
    let p = err_from_is_err_and c.from_residual-in_err-on.result c.from_residual-in_err-on.ensures.1 in
    rw (p.1, p.2) (λ known streams e f left right. fold_on left right c.in_ok-choose.ensures.ok.1 (c.in_err-on.ensures.err known))

pub returns-in_err-parts-clause-err : goal.returns-in_err-parts-clause-err
returns-in_err-parts-clause-err c =
    let p = err_from_is_err_and c.from_residual-in_err-parts.result c.from_residual-in_err-parts.ensures.1 in
    rw (p.1, p.2) (λ known streams e f left right. fold_sets left right c.in_ok-choose.ensures.ok.1 c.in_ok-on.ensures.ok.1 (c.in_err-parts.ensures.err known))

pub returns-clause-ok : goal.returns-clause-ok
returns-clause-ok c =
    let choose = c.in_ok-choose.ensures.ok in
    let on = c.in_ok-on.ensures.ok in
    let parts = c.in_ok-parts.ensures.ok in
    IfOk-weaker c.with_type.result _ _
    (λ t made streams e f left right. rw (made.0, made.1, choose.2, on.2, c.size-width.ensures.value, parts.value) (fold left right choose.1 on.1 parts.assigns)) c.with_type.ensures.ok
