use Rattle.std.proofs.Common.{◌∙◌, ◌≤◌, arith, get_or, rules, subst}
use Rattle.std.proofs.lemmas.List.{get_or_default}
use borrow.Author.Count.{below_more}
use Rattle.derivations.specs.declared.history.Heard.{Heard}
use Rattle.public_calls.proofs.tests.derived.are_until.Goals as goal

-- so is one event more
pub loop-event-preserved : goal.loop-event-preserved
loop-event-preserved g c =
    let until : c.event-item.result.tuple.at ≤ c.args.time = search rules in
    below_more (λ k. (d : Heard) → (get_or c.args.events.now k d).tuple.at ≤ c.args.time) c.loop-event.event-index c.loop-event.invariant
    (λ d. subst (λ (event : Heard). event.tuple.at ≤ c.args.time) (c.event-item.is ∙ get_or_default c.args.events.now c.loop-event.event-index c.event-item.result d c.loop-event-test.true) until)

-- all are
pub returns : goal.returns
returns g c = λ k d less. c.loop-event.invariant k (omega (arith, less, c.loop-event-test.false)) d
