use Rattle.std.proofs.Common.{◌≡◌, ◌∙◌, ◌++◌, [], true, false, not, sym, ap}
use Rattle.std.specs.Prelude.{Some, is_some}
use Rattle.std.specs.List.{cons_option}
use Rattle.stream_schema.specs.Streams.{stream_names}
use Rattle.cel_types.specs.Aggregates.{is_among}
use Rattle.catalogue.specs.declared.fault.QueryFault.TheVariants.{Unknown}
use Rattle.catalogue.proofs.NameLemmas.{is_some-number_of}
use Rattle.catalogue.proofs.ReadingLemmas.{number_of-position, read_fault-absent, read_fault-there}
use Rattle.catalogue.proofs.reading.add_name.Goals as goal

-- no statement has the name
pub returns-then-is_none-clause-fault : goal.returns-then-is_none-clause-fault
returns-then-is_none-clause-fault c =
    let absent : is_among (stream_names c.args.named.now.all) c.args.name.now ≡ false = sym (is_some-number_of c.args.name.now c.args.named.now.all) ∙ ap is_some (sym c.find.ensures.value) ∙ c.is_none.ensures ∙ ap not c.if-is_none.true in
    ap (λ n. Some (Unknown n)) c.in_ok-name.ensures ∙ sym (read_fault-absent (stream_names c.args.named.now.all) c.args.name.now absent)

-- one has it
pub returns-clause-fault : goal.returns-clause-fault
returns-clause-fault c =
    let there : is_among (stream_names c.args.named.now.all) c.args.name.now ≡ true = sym (is_some-number_of c.args.name.now c.args.named.now.all) ∙ ap is_some (sym c.find.ensures.value) ∙ c.is_none.ensures ∙ ap not c.if-is_none.false in
    sym (read_fault-there (stream_names c.args.named.now.all) c.args.name.now there)

-- its number is added, if it is a query's
pub returns-clause-numbers : goal.returns-clause-numbers
returns-clause-numbers c none =
    c.in_ok-add_number.ensures ∙ ap (λ o. c.args.numbers.now ++ cons_option o []) (c.find-2.ensures.value ∙ sym (number_of-position c.args.name.now c.args.named.now.queries))
