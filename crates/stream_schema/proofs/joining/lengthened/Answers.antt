use Rattle.std.proofs.Common.{◌≡◌, ◌∙◌, false, not, arith}
use Rattle.std.proofs.lemmas.Grind.{common_steps}
use Rattle.stream_schema.specs.Joining.{is_taken, suffixed}
use Rattle.stream_schema.proofs.SuffixLemmas.{least_from-next}
use Rattle.stream_schema.proofs.joining.lengthened.Goals as goal

pub loop-number-preserved : goal.loop-number-preserved
loop-number-preserved c =
    let taken : not (is_taken c.args.schema.now (suffixed c.args.name.now c.loop-number.number)) ≡ false = grind (arith, common_steps) in
    c.loop-number.invariant ∙ least_from-next (λ number. not (is_taken c.args.schema.now (suffixed c.args.name.now number))) c.loop-number.number _ c.loop-number-test.true taken
