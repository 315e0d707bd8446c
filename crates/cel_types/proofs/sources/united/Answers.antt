use Rattle.std.proofs.Common.{sym}
use Rattle.std.proofs.lemmas.Result.{IfOk-weaker}
use Rattle.cel_types.specs.Sources.{union, union_schemas}
use Rattle.cel_types.proofs.sources.united.Goals as goal

pub returns-in-Some-clause-err : goal.returns-in-Some-clause-err
returns-in-Some-clause-err c = λ known streams e f left right. union_schemas left right (sym c.in-Some.ensures)

pub returns-clause-ok : goal.returns-clause-ok
returns-clause-ok c = IfOk-weaker c.with_type.result _ _ (λ t made streams e f left right. rw (made.0, made.1) (union left right (sym c.in_default.ensures))) c.with_type.ensures.ok
