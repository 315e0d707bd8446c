use Rattle.std.proofs.Common.{◌≡◌, ◌∙◌, true, false, not, sym, ap}
use Rattle.std.specs.Prelude.{Some, is_some}
use Rattle.stream_schema.specs.Streams.{stream_names}
use Rattle.stream_schema.proofs.TextLemmas.{own-from_bytes}
use Rattle.cel_types.specs.Aggregates.{is_among}
use Rattle.catalogue.specs.declared.fault.QueryFault.TheVariants.{Unknown}
use Rattle.catalogue.proofs.JudgeLemmas.{found_known}
use Rattle.catalogue.proofs.NameLemmas.{is_some-number_of}
use Rattle.catalogue.proofs.ReadingLemmas.{read_fault-absent, read_fault-there}
use Rattle.catalogue.proofs.adding.unknown.Goals as goal

-- no stream has the name
pub returns-then-is_none-clause-fault : goal.returns-then-is_none-clause-fault
returns-then-is_none-clause-fault c =
    let absent : is_among (stream_names c.args.streams.now) c.args.name.now ≡ false = sym (is_some-number_of c.args.name.now c.args.streams.now) ∙ ap is_some (sym c.find.ensures.value) ∙ c.is_none.ensures ∙ ap not c.if-is_none.true in
    ap (λ n. Some (Unknown n)) c.in_ok-name.ensures ∙ sym (read_fault-absent (stream_names c.args.streams.now) c.args.name.now absent)

-- one has it
pub returns-clause-fault : goal.returns-clause-fault
returns-clause-fault c =
    let there : is_among (stream_names c.args.streams.now) c.args.name.now ≡ true = sym (is_some-number_of c.args.name.now c.args.streams.now) ∙ ap is_some (sym c.find.ensures.value) ∙ c.is_none.ensures ∙ ap not c.if-is_none.false in
    sym (read_fault-there (stream_names c.args.streams.now) c.args.name.now there)

-- and is known
pub returns-clause-known : goal.returns-clause-known
returns-clause-known c = found_known c.args.streams.now c.args.name.now c.find.result (own-from_bytes c.args.name.now c.type_inv.name) c.find.ensures.value c.find.ensures.found c.find.ensures.within
