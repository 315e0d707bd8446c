use Rattle.std.proofs.Common.{◌∙◌, ap, subst, sym, Err, Result}
use Rattle.std.specs.Prelude.{IfErr}
use Rattle.std.proofs.lemmas.Result.{on_ok_weaker}
use Rattle.semantics.specs.Histories.{Event}
use Rattle.courses.specs.ControlLines.{EntryFault}
use Rattle.courses.specs.EventLines.{found_of}
use Rattle.explanation.specs.Hearing.{AddsFound, FailsBy, refusal_behind}
use Rattle.explanation.proofs.LinesLemmas.{begins_control, begins_plain, control_found, event_found}
use Rattle.explanation.proofs.lines.hear_line.Goals as goal

-- a line that begins with > isn't taken
pub returns-then-bytes-eq62-clause-stops : goal.returns-then-bytes-eq62-clause-stops
returns-then-bytes-eq62-clause-stops c =
    ap (λ (found : Result Event EntryFault). refusal_behind c.args.history.now c.args.number found)
    (control_found c.args.streams.now c.args.bytes.now c.requires (begins_control c.args.bytes.now c.requires c.if-bytes-eq62.true)) ∙ c.refuse_control.ensures c.args.history.now

-- an event line says its event
pub returns-in-Ok-clause-heard : goal.returns-in-Ok-clause-heard
returns-in-Ok-clause-heard c =
    let says = event_found c.args.streams.now c.args.bytes.now c.requires (begins_plain c.args.bytes.now c.requires c.if-bytes-eq62.false) ∙ ap found_of c.in-Ok.ensures.ok in
    on_ok_weaker c.hear_event.result (λ adds. subst (λ (found : Result Event EntryFault). AddsFound c.args.number found c.args.history.now c.hear_event.new.history) (sym says) adds) c.hear_event.ensures.heard

pub returns-in-Ok-clause-stops : goal.returns-in-Ok-clause-stops
returns-in-Ok-clause-stops c =
    let says = event_found c.args.streams.now c.args.bytes.now c.requires (begins_plain c.args.bytes.now c.requires c.if-bytes-eq62.false) ∙ ap found_of c.in-Ok.ensures.ok in
    subst (λ (found : Result Event EntryFault). IfErr c.hear_event.result (FailsBy (refusal_behind c.args.history.now c.args.number found))) (sym says) c.hear_event.ensures.stops

-- or it has a fault
pub returns-in-Err-Bad-clause-stops : goal.returns-in-Err-Bad-clause-stops
returns-in-Err-Bad-clause-stops c =
    let tells = rw c.in-Err-Bad.field-0-is at c.in-Err-Bad.ensures.bad in
    let says = event_found c.args.streams.now c.args.bytes.now c.requires (begins_plain c.args.bytes.now c.requires c.if-bytes-eq62.false) ∙ ap found_of tells in
    ap (λ (found : Result Event EntryFault). refusal_behind c.args.history.now c.args.number found) says
