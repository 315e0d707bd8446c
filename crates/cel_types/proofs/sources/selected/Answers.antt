use Rattle.std.proofs.Common.{◌∙◌}
use Rattle.std.proofs.lemmas.Result.{IfOk-weaker, err_from_is_err_and}
use Rattle.cel_types.specs.Sources.{select, select_items, select_wide}
use Rattle.cel_types.proofs.MakeLemmas.{make-new}
use Rattle.cel_types.proofs.NewLemmas.{new-from_schema}
use Rattle.cel_types.proofs.sources.selected.Goals as goal

pub returns-in_err-made-clause-err : goal.returns-in_err-made-clause-err
returns-in_err-made-clause-err c =
    let p = err_from_is_err_and c.from_residual.result c.from_residual.ensures.1 in
    rw (p.1, p.2) (λ known streams e typed. select_items typed (c.in_err-made.ensures.err known))

pub schema_of-requires : goal.schema_of-requires
schema_of-requires c = rw c.as_slice.ensures (make-new (new-from_schema c.args.inner.schema c.size-width.ensures.is_schema) c.in_ok-made.ensures.ok)

pub returns-in_err-schema-clause-err : goal.returns-in_err-schema-clause-err
returns-in_err-schema-clause-err c =
    let p = err_from_is_err_and c.from_residual-in_err-schema.result c.from_residual-in_err-schema.ensures.1 in
    rw (p.1, p.2) (λ known streams e typed.
    let wide = rw c.as_slice.ensures at (c.in_err-schema.ensures.too_wide known) in
    rw wide.1 (select_wide typed c.in_ok-made.ensures.ok wide.0))

pub returns-clause-ok : goal.returns-clause-ok
returns-clause-ok c =
    let narrow = rw c.as_slice.ensures at c.in_ok-schema.ensures.narrow in
    let schema = c.in_ok-schema.ensures.ok ∙ c.as_slice.ensures in
    IfOk-weaker c.with_type.result _ _ (λ t made streams e typed. rw (made.0, made.1, schema, c.size-width.ensures.value) (select typed c.in_ok-made.ensures.ok narrow)) c.with_type.ensures.ok
