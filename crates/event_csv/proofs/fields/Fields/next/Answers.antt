use Rattle.std.proofs.Common.{◌≡◌, [], drop, sym}
use Rattle.csv.specs.Records.{fields_of}
use Rattle.event_csv.proofs.RecordFacts.{fields-none, fields-some}
use Rattle.event_csv.proofs.fields.Fields.next.Goals as goal

pub returns-in-None : goal.returns-in-None
returns-in-None c =
    let none : drop c.in-Row.place (fields_of c.in-Row.row.now) ≡ [] = fields-none (fields_of c.in-Row.row.now) c.in-Row.place (sym c.in-None.ensures.value) in
    (rw c.in-Row.is none, none)

pub returns-in-Some : goal.returns-in-Some
returns-in-Some c =
    rw c.in-Row.is (fields-some (fields_of c.in-Row.row.now) c.in-Row.place c.in-Some.field.now (sym c.in-Some.ensures.value))
