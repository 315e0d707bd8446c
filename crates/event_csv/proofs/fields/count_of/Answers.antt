use Rattle.std.proofs.Common.{arith}
use Rattle.std.specs.Prelude.{◌==◌}
use Rattle.std.proofs.lemmas.List.Splits.{length-slice_split}
use Rattle.event_csv.specs.Fields.{comma}
use Rattle.event_csv.proofs.fields.count_of.Goals as goal

pub returns-in-Some : goal.returns-in-Some
returns-in-Some c =
    let commas = rw c.as_bytes.ensures.value at c.commas.ensures in
    rw c.in-Some.is (omega (arith, commas, length-slice_split (λ b. b == comma) c.in-Some.text.now))
