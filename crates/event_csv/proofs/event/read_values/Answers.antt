use Rattle.std.proofs.Common.{◌∙◌, ◌∷◌, ◌++◌, [], sym, ap, arith, length, length-append}
use Rattle.stream_schema.specs.Schema.{kinds_of}
use Rattle.event_csv.specs.Event.{values_of}
use Rattle.event_csv.specs.Fields.{fields_left}
use Rattle.event_csv.proofs.ValueFacts.{read-all, read-bad, read-more}
use Rattle.event_csv.proofs.event.read_values.Goals as goal

pub returns-in-Ok-None-clause-bad : goal.returns-in-Ok-None-clause-bad
returns-in-Ok-None-clause-bad c =
    let kind = rw c.len-place.ensures at c.kind-kind.ensures in
    rw (c.no_value.ensures, c.len-place.ensures) (
    read-bad (values_of 4 (kinds_of c.args.schema.now) (fields_left c.args.fields.now)) c.fields.vals (kinds_of c.args.schema.now) c.kind-kind.result
    (fields_left c.fields.fields) c.in-Some.field.now (fields_left c.next.new.self)
    c.fields.invariant.whole c.in-Some.ensures kind (sym c.in-Ok-None.field-0-is ∙ c.in-Ok-None.ensures)
    )

pub fields-preserved : goal.fields-preserved
fields-preserved c =
    let kind = rw c.len-place.ensures at c.kind-kind.ensures in
    let size = length-append c.fields.vals (c.in-Ok-Some.value ∷ []) in
    record {
      whole = rw c.in-Ok.ensures.ok (
          read-more (values_of 4 (kinds_of c.args.schema.now) (fields_left c.args.fields.now)) c.fields.vals (kinds_of c.args.schema.now) c.kind-kind.result c.in-Ok-Some.value
          (fields_left c.fields.fields) c.in-Some.field.now (fields_left c.next.new.self) (length (c.fields.vals ++ c.in-Ok-Some.value ∷ []))
          c.fields.invariant.whole c.in-Some.ensures kind (sym c.in-Ok-Some.field-0-is ∙ c.in-Ok-Some.ensures) size
          );
      many = rw c.in-Ok.ensures.ok (omega (arith, size, c.fields.invariant.many, ap length c.in-Some.ensures));
    }

pub returns-clause-ok : goal.returns-clause-ok
returns-clause-ok c =
    read-all (values_of 4 (kinds_of c.args.schema.now) (fields_left c.args.fields.now)) c.fields.vals (kinds_of c.args.schema.now) (fields_left c.fields.fields)
    c.fields.invariant.whole c.in_default.ensures.0
