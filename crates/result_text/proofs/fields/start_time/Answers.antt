use Rattle.std.proofs.Common.{◌≡◌, ◌∙◌, ◌<◌, ◌^◌, arith}
use Rattle.std.specs.Prelude.{decimal}
use Rattle.result_text.proofs.FieldLemmas.{quoted-decimal}
use Rattle.result_text.proofs.fields.start_time.Goals as goal

pub returns-clause-bytes : goal.returns-clause-bytes
returns-clause-bytes c =
    let text : c.as_bytes.result.now ≡ decimal c.args.time = c.as_bytes.ensures.value ∙ c.format.ensures.text in
    let small : c.args.time < 2 ^ 64 = c.ranges.time.fits in
    rw (text, quoted-decimal c.args.time (omega arith)) at c.start.ensures.bytes
