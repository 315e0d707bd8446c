use Rattle.std.proofs.Common.{◌≡◌, ◌∙◌, ◌++◌}
use Rattle.std.specs.Int.{w128}
use Rattle.std.proofs.lemmas.Int.{to_z-of_z}
use Rattle.semantics.specs.Report.{decimal_text}
use Rattle.result_text.proofs.FieldLemmas.{quoted-decimal_text}
use Rattle.result_text.proofs.fields.add_decimal.Goals as goal

pub returns-clause-bytes : goal.returns-clause-bytes
returns-clause-bytes c =
    let units = c.args.units in
    let text : c.as_slice.result.now ≡ decimal_text c.args.scale units =
    c.as_slice.ensures.value ∙ c.in_ok-append_decimal.ensures ∙ (λ i. c.new-text.ensures.items i ++ decimal_text c.args.scale (to_z-of_z w128 units c.ranges.units i)) in
    rw (text, quoted-decimal_text c.args.scale units c.ranges.units.sfits) at c.add.ensures.bytes
