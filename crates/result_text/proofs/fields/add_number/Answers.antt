use Rattle.std.proofs.Common.{◌≡◌, ◌∙◌, ap}
use Rattle.std.specs.Fmt.{signed_decimal}
use Rattle.std.specs.Int.{w128}
use Rattle.std.proofs.lemmas.Int.{to_z-of_z}
use Rattle.result_text.proofs.FieldLemmas.{quoted-signed}
use Rattle.result_text.proofs.fields.add_number.Goals as goal

pub returns-clause-bytes : goal.returns-clause-bytes
returns-clause-bytes c =
    let number = c.args.number in
    let text : c.as_bytes.result.now ≡ signed_decimal number =
    c.as_bytes.ensures.value ∙ c.format.ensures.text ∙ ap signed_decimal (to_z-of_z w128 number c.ranges.number) in
    rw (text, quoted-signed number c.ranges.number.sfits) at c.add.ensures.bytes
