use Rattle.std.proofs.Common.{◌∙◌, arith, get_or, subst}
use Rattle.std.proofs.lemmas.List.{get_or_default}
use Rattle.std.proofs.lemmas.List.Elements.{All-map}
use borrow.Author.Count.{below_more}
use Rattle.semantics.specs.Histories.{Event}
use Rattle.semantics.specs.Kinds.{HasKinds}
use Rattle.cel_types.specs.SourceLaws.{kinds_in}
use Rattle.derivations.specs.HeardLines.{event_of}
use Rattle.derivations.specs.declared.history.Heard.{Heard}
use Rattle.public_calls.proofs.tests.derived.have_their_kinds.Goals as goal

-- so has one event more
pub loop-event-preserved : goal.loop-event-preserved
loop-event-preserved g c =
    let kinds = kinds_in c.args.catalogue.now.streams in
    below_more (λ k. (d : Heard) → HasKinds (kinds (get_or c.args.events.now k d).stream) (get_or c.args.events.now k d).tuple) c.loop-event.event-index c.loop-event.invariant
    (λ d. subst (λ (event : Heard). HasKinds (kinds event.stream) event.tuple) (c.event-item.is ∙ get_or_default c.args.events.now c.loop-event.event-index c.event-item.result d c.loop-event-test.true) c.in_ok-has_its_kinds.ensures)

-- all have
pub returns : goal.returns
returns g c =
    All-map (λ (event : Event). HasKinds (kinds_in c.args.catalogue.now.streams event.stream) event.tuple) event_of c.args.events.now
    (λ k d less. c.loop-event.invariant k (omega (arith, less, c.loop-event-test.false)) d)
