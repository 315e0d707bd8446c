use Rattle.std.proofs.Common.{◌≡◌, ◌∙◌, ◌∷◌, [], ap, arith, get_or, rules, sym, subst, take}
use Rattle.std.specs.Prelude.{None}
use Rattle.std.specs.List.{All}
use Rattle.std.proofs.lemmas.List.{take_all, take_more}
use Rattle.std.proofs.lemmas.List.Elements.{All-push}
use Rattle.stream_schema.specs.Streams.{stream_names}
use Rattle.catalogue.specs.Taking.{IsKnownName}
use Rattle.catalogue.specs.Naming.{read_fault}
use Rattle.catalogue.proofs.ReadingLemmas.{read_fault-at, read_fault-more}
use Rattle.catalogue.proofs.adding.first_unknown.Goals as goal

-- the name is the first that no stream has
pub returns-in-Some-clause-fault : goal.returns-in-Some-clause-fault
returns-in-Some-clause-fault c =
    let all = stream_names c.args.streams.now in
    let names = c.args.names.now in
    let place = c.loop-name.name-index in
    let name = c.name-item.result in
    let same : c.as_str.result.now ≡ get_or names place name = c.as_str.ensures ∙ c.name-item.is in
    sym (read_fault-at all names place name c.in-Some.fault c.loop-name-test.true c.loop-name.invariant.none
    (ap (λ n. read_fault all (n ∷ [])) (sym same) ∙ sym c.in_ok-fault.ensures.fault ∙ c.in-Some.is))

-- a stream has it
pub loop-name-preserved : goal.loop-name-preserved
loop-name-preserved c =
    let all = stream_names c.args.streams.now in
    let names = c.args.names.now in
    let place = c.loop-name.name-index in
    let name = c.name-item.result in
    let same : c.as_str.result.now ≡ get_or names place name = c.as_str.ensures ∙ c.name-item.is in
    let none : c.in_ok-fault.field-0 ≡ None = search rules in
    record {
      none = read_fault-more all names place name c.loop-name-test.true c.loop-name.invariant.none (ap (λ n. read_fault all (n ∷ [])) (sym same) ∙ sym c.in_ok-fault.ensures.fault ∙ none);
      known = subst (All (IsKnownName c.args.streams.now)) (sym (take_more names place name c.loop-name-test.true))
          (All-push (IsKnownName c.args.streams.now) (take place names) (get_or names place name) c.loop-name.invariant.known (subst (IsKnownName c.args.streams.now) same c.unknown.ensures.known));
    }

-- all are known
pub returns-clause-known : goal.returns-clause-known
returns-clause-known c none = subst (All (IsKnownName c.args.streams.now)) (take_all c.loop-name.name-index c.args.names.now (omega (arith, c.loop-name-test.false))) c.loop-name.invariant.known
