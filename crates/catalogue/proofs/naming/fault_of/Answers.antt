use Rattle.std.proofs.Common.{◌≡◌, ◌∙◌, true, false, sym, ap}
use Rattle.std.specs.Prelude.{is_some, Some}
use Rattle.std.specs.Str.{bytes_eq}
use Rattle.stream_schema.specs.Streams.{stream_names}
use Rattle.cel_types.specs.Aggregates.{is_among}
use Rattle.catalogue.specs.declared.fault.QueryFault.TheVariants.{Duplicate}
use Rattle.catalogue.specs.Naming.{reserved_name}
use Rattle.catalogue.proofs.NameLemmas.{is_some-number_of}
use Rattle.catalogue.proofs.NamingLemmas.{name_fault-none, name_fault-taken}
use Rattle.catalogue.proofs.naming.fault_of.Goals as goal

-- an earlier name is the same
pub returns-then-is_some : goal.returns-then-is_some
returns-then-is_some c =
    let free : bytes_eq c.args.name.now reserved_name ≡ false = sym c.eq.ensures ∙ c.if-eq.false in
    let there : is_among (stream_names c.args.there.now) c.args.name.now ≡ true =
    sym (is_some-number_of c.args.name.now c.args.there.now) ∙ ap is_some (sym c.find.ensures.value) ∙ sym c.is_some.ensures ∙ c.if-is_some.true in
    ap (λ n. Some (Duplicate n)) c.in_ok-name-2.ensures ∙ sym (name_fault-taken (stream_names c.args.there.now) c.args.name.now free there)

-- none is
pub returns : goal.returns
returns c =
    let free : bytes_eq c.args.name.now reserved_name ≡ false = sym c.eq.ensures ∙ c.if-eq.false in
    let absent : is_among (stream_names c.args.there.now) c.args.name.now ≡ false =
    sym (is_some-number_of c.args.name.now c.args.there.now) ∙ ap is_some (sym c.find.ensures.value) ∙ sym c.is_some.ensures ∙ c.if-is_some.false in
    sym (name_fault-none (stream_names c.args.there.now) c.args.name.now free absent)
