use Rattle.std.proofs.Common.{Err, Ok, refl}
use Rattle.std.proofs.lemmas.Result.{IfOk-weaker}
use Rattle.event_csv.specs.Control.{Asked}
use Rattle.event_csv.specs.declared.control.ControlError.TheVariants as error
use Rattle.event_csv.specs.declared.fault.LineFault.TheVariants as line
use Rattle.courses.specs.declared.fault.ControlFault.TheVariants as fault
use Rattle.courses.specs.declared.refusal.Refusal.TheVariants.{HasFault}
use Rattle.courses.specs.ControlLines.{OfControl, OfLine, control_entry}
use Rattle.courses.specs.QuerySet.{set_in}
use Rattle.session.specs.declared.reading.Next.TheVariants as next
use Rattle.session.specs.Says.{Finds, Says}
use Rattle.session.proofs.ReadingLemmas.{refused_finds, says_control}
use Rattle.session.proofs.control.read_change.Goals as goal

-- the text of a query follows
pub returns-in-Ok-Add-clause-says : goal.returns-in-Ok-Add-clause-says
returns-in-Ok-Add-clause-says c =
    let catalogue = c.args.catalogue.now in
    let asks = Ok (Asked.Adding c.in-Ok-Add.text.now) in
    IfOk-weaker c.read_query.result (Finds catalogue c.args.number (control_entry (set_in catalogue) asks)) (Says catalogue c.args.number c.args.bytes.now)
    (says_control catalogue c.args.number c.args.bytes.now asks c.requires.line c.requires.control (rw c.in-Ok-Add.field-0-is at c.in-Ok-Add.ensures.ok)) c.read_query.ensures.says

-- a name follows
pub returns-in-Ok-Remove-clause-says : goal.returns-in-Ok-Remove-clause-says
returns-in-Ok-Remove-clause-says c =
    let catalogue = c.args.catalogue.now in
    let asks = Ok (Asked.Removing c.in-Ok-Remove.name.now) in
    IfOk-weaker c.read_name.result (Finds catalogue c.args.number (control_entry (set_in catalogue) asks)) (Says catalogue c.args.number c.args.bytes.now)
    (says_control catalogue c.args.number c.args.bytes.now asks c.requires.line c.requires.control (rw c.in-Ok-Remove.field-0-is at c.in-Ok-Remove.ensures.ok)) c.read_name.ensures.says

-- it isn't UTF-8
pub returns-in-Err-NotUtf8-clause-says : goal.returns-in-Err-NotUtf8-clause-says
returns-in-Err-NotUtf8-clause-says c = says_control c.args.catalogue.now c.args.number c.args.bytes.now (Err error.NotUtf8) c.requires.line c.requires.control (rw c.in-Err-NotUtf8.field-0-is at c.in-Err-NotUtf8.ensures.err)
    (next.Refused (HasFault c.args.number line.NotUtf8)) (refused_finds c.args.catalogue.now c.args.number (OfLine line.NotUtf8) (Err (OfLine line.NotUtf8)) (next.Refused (HasFault c.args.number line.NotUtf8)) refl refl)

-- it has neither form
pub returns-in-Err-BadForm-clause-says : goal.returns-in-Err-BadForm-clause-says
returns-in-Err-BadForm-clause-says c =
    says_control c.args.catalogue.now c.args.number c.args.bytes.now (Err error.BadForm) c.requires.line c.requires.control (rw c.in-Err-BadForm.field-0-is at c.in-Err-BadForm.ensures.err) _
    (refused_finds c.args.catalogue.now c.args.number (OfControl fault.BadForm) (Err (OfControl fault.BadForm)) _ refl c.refused.ensures)
