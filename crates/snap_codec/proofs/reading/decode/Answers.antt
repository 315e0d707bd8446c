use Rattle.std.proofs.Common.{subst, arith}
use Rattle.snap_codec.specs.Answers.{Gives}
use Rattle.snap_codec.proofs.ImageLemmas.{each_decoded, is_decoded}
use Rattle.snap_codec.proofs.reading.decode.Goals as goal

pub returns-clause-ok : goal.returns-clause-ok
returns-clause-ok c = is_decoded c.args.bytes.now c.read_all.result (λ i. omega (arith, c.type_inv.bytes i)) c.read_all.ensures

pub returns-clause-all : goal.returns-clause-all
returns-clause-all c = λ image is. subst (λ read. Gives (λ read. read) c.read_all.result read) (each_decoded c.args.bytes.now image is) c.read_all.ensures
