use Rattle.std.proofs.Common.{◌∙◌, ap}
use Rattle.std.proofs.lemmas.Bool.{lt-ltb}
use Rattle.expressions.specs.Views.{ex_of}
use Rattle.derivations.proofs.DenotingLemmas.{declared_derived}
use Rattle.derivations.proofs.denoting.declared_read.Goals as goal

-- the tuples of the stream are what it gives
pub returns-in-Read : goal.returns-in-Read
returns-in-Read c =
    c.as_slice.ensures
    ∙ declared_derived c.args.declared c.in-Read.stream c.args.streams.now c.get.result.now (ex_of c.args.expr.now) c.get.ensures (ap ex_of c.in-Read.is)
    (lt-ltb c.in-Read.stream c.args.declared c.if-stream-declared.true)
