use Rattle.session.specs.Owes.{stage_at}
use Rattle.session.proofs.OwesLemmas.{refuses, says_refusal}
use Rattle.session.proofs.TestsLemmas.{closing_none}
use Rattle.session.proofs.events.work_on_event.Goals as goal

-- a late event is refused
pub returns-in-Some-clause-stops : goal.returns-in-Some-clause-stops
returns-in-Some-clause-stops g c =
    λ ended line lines history number says stands.
    refuses ended line lines (stage_at c.args.catalogue.now c.args.work.now history) _ _ _ c.refuse.result
    (says_refusal c.args.catalogue.now c.args.work.now.engine line c.args.line.number _ _ number says (rw c.at-at.ensures.value at c.in-Some.ensures.late c.args.line.number)) (rw c.at-at.ensures.value at c.refuse.ensures.by)

-- nothing is tested at a late event
pub returns-in-Some-clause-tests : goal.returns-in-Some-clause-tests
returns-in-Some-clause-tests g c = closing_none c.args.catalogue.now c.args.work.now.engine c.args.line.event.tuple.at c.args.steps.now
