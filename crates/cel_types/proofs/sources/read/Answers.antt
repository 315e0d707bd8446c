use Rattle.std.proofs.Common.{sym}
use Rattle.std.proofs.lemmas.Result.{IfOk-weaker}
use Rattle.cel_types.specs.Sources.{name}
use Rattle.cel_types.proofs.sources.read.Goals as goal

pub returns-clause-ok : goal.returns-clause-ok
returns-clause-ok c =
    IfOk-weaker c.with_type.result _ _ (λ t made. rw (made.0, made.1, c.in_ok-copied-in-Some.ensures) (name (sym c.in-Some.ensures.value) c.schema.ensures)) c.with_type.ensures.ok
