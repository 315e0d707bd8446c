use Rattle.std.proofs.Common.{◌≡◌, ◌∙◌, ◌++◌, ◌∷◌, [], append_assoc, ap, arith, get_or, rules, sym, take}
use Rattle.std.specs.Prelude.{None}
use Rattle.std.proofs.lemmas.List.{take_all}
use Rattle.stream_schema.specs.Streams.{stream_names}
use Rattle.catalogue.specs.Naming.{read_fault}
use Rattle.catalogue.specs.Reading.{numbers_of}
use Rattle.catalogue.proofs.ReadingLemmas.{numbers_of-more, read_fault-at, read_fault-more}
use Rattle.catalogue.proofs.reading.add_names.Goals as goal

-- the name is the first that no statement has
pub returns-in-Some-clause-fault : goal.returns-in-Some-clause-fault
returns-in-Some-clause-fault c =
    let all = stream_names c.args.named.now.all in
    let names = c.args.names.now in
    let place = c.loop-name.name-index in
    let name = c.name-item.result in
    let same : c.as_str.result.now ≡ get_or names place name = c.as_str.ensures ∙ c.name-item.is in
    sym (read_fault-at all names place name c.in-Some.fault c.loop-name-test.true c.loop-name.invariant.none
    (ap (λ n. read_fault all (n ∷ [])) (sym same) ∙ sym c.in_ok-fault.ensures.fault ∙ c.in-Some.is))

-- a statement has it, and its number was added if it is a query's
pub loop-name-preserved : goal.loop-name-preserved
loop-name-preserved c =
    let all = stream_names c.args.named.now.all in
    let queries = stream_names c.args.named.now.queries in
    let names = c.args.names.now in
    let place = c.loop-name.name-index in
    let name = c.name-item.result in
    let same : c.as_str.result.now ≡ get_or names place name = c.as_str.ensures ∙ c.name-item.is in
    let none : c.in_ok-fault.field-0 ≡ None = search rules in
    let old = c.args.numbers.now in
    let before = numbers_of queries (take place names) in
    record {
      none = read_fault-more all names place name c.loop-name-test.true c.loop-name.invariant.none
          (ap (λ n. read_fault all (n ∷ [])) (sym same) ∙ sym c.in_ok-fault.ensures.fault ∙ none);
      numbers = c.in_ok-fault.ensures.numbers none
          ∙ ap (λ n. c.loop-name.numbers ++ numbers_of queries (n ∷ [])) same
          ∙ ap (λ ns. ns ++ numbers_of queries (get_or names place name ∷ [])) c.loop-name.invariant.numbers
          ∙ append_assoc old before (numbers_of queries (get_or names place name ∷ []))
          ∙ ap (λ ns. old ++ ns) (sym (numbers_of-more queries names place name c.loop-name-test.true));
    }

-- all names are those of statements
pub returns-clause-fault : goal.returns-clause-fault
returns-clause-fault c =
    let all = stream_names c.args.named.now.all in
    let whole = take_all c.loop-name.name-index c.args.names.now (omega (arith, c.loop-name-test.false)) in
    sym (sym (ap (read_fault all) whole) ∙ c.loop-name.invariant.none)

-- the numbers of all were added
pub returns-clause-numbers : goal.returns-clause-numbers
returns-clause-numbers c none =
    let queries = stream_names c.args.named.now.queries in
    let whole = take_all c.loop-name.name-index c.args.names.now (omega (arith, c.loop-name-test.false)) in
    c.loop-name.invariant.numbers ∙ ap (λ xs. c.args.numbers.now ++ numbers_of queries xs) whole
