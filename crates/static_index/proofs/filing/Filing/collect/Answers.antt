use Rattle.std.proofs.Common.{◌≡◌, true, subst}
use Rattle.std.proofs.lemmas.Result.{on_ok_weaker}
use Rattle.static_index.specs.Headings.{label_of}
use Rattle.static_index.specs.Table.{holds_as}
use Rattle.static_index.specs.declared.entry.Choice.TheVariants.{Part}
use Rattle.static_index.proofs.HoldingLemmas.{first_given}
use Rattle.static_index.proofs.filing.Filing.collect.Goals as goal

pub returns-in-First : goal.returns-in-First
returns-in-First c =
    let event = c.args.event.now in
    on_ok_weaker c.collect.result
    (λ gives. λ n e filed holds. gives (label_of e.parts (Part 0)) n (first_given event e.parts (subst (λ a. holds_as a event e.parts ≡ true) c.in-First.is holds)) filed.first)
    c.collect.ensures

pub returns-in-All : goal.returns-in-All
returns-in-All c =
    let event = c.args.event.now in
    on_ok_weaker c.collect-in-All.result
    (λ gives. λ n e filed holds. gives (label_of e.parts e.choice.value) n (filed.covers event (subst (λ a. holds_as a event e.parts ≡ true) c.in-All.is holds)) filed.choice)
    c.collect-in-All.ensures
