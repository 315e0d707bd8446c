use Rattle.std.proofs.Common.{◌≡◌, ◌∙◌, Ok, sym, true}
use Rattle.std.proofs.lemmas.Result.{IfOk-weaker}
use Rattle.cel_lexer.specs.Names.{is_name}
use Rattle.courses.specs.declared.fault.ControlFault.TheVariants as fault
use Rattle.courses.specs.ControlLines.{OfControl, control_entry}
use Rattle.courses.specs.QuerySet.{set_in}
use Rattle.event_csv.specs.Control.{Asked}
use Rattle.session.specs.declared.control.Change.TheVariants as change
use Rattle.session.specs.Says.{Asks, Finds, FitsNext}
use Rattle.session.proofs.ReadingLemmas.{asked_finds, asked_fits, is_read, leaves, no_name, no_query, refused_finds}
use Rattle.session.proofs.control.read_name.Goals as goal

-- what follows is no name
pub returns-then-not-is_name-clause-says : goal.returns-then-not-is_name-clause-says
returns-then-not-is_name-clause-says c =
    refused_finds c.args.catalogue.now c.args.number (OfControl fault.BadForm) _ c.refused.result (no_name (set_in c.args.catalogue.now) c.args.name.now (sym c.is_name.ensures.value ∙ c.if-not-is_name.true)) c.refused.ensures

-- the query of the name leaves
pub returns-in-Ok-clause-says : goal.returns-in-Ok-clause-says
returns-in-Ok-clause-says c =
    let one : is_name c.args.name.now ≡ true = sym c.is_name.ensures.value ∙ c.if-not-is_name.false in
    let catalogue = c.args.catalogue.now in
    let made = change.Leaves c.in-Ok.query in
    let found = control_entry (set_in catalogue) (Ok (Asked.Removing c.args.name.now)) in
    IfOk-weaker c.asked.result (Asks made) (Finds catalogue c.args.number found)
    (λ n. asked_finds catalogue c.args.number made found n (leaves catalogue c.args.name.now one c.in-Ok.query c.in-Ok.ensures.named c.in-Ok.ensures.first c.in-Ok.ensures.unread) (c.in-Ok.ensures.named.within, c.in-Ok.ensures.unread)) c.asked.ensures

pub returns-in-Ok-clause-fits : goal.returns-in-Ok-clause-fits
returns-in-Ok-clause-fits c =
    let made = change.Leaves c.in-Ok.query in IfOk-weaker c.asked.result (Asks made) (FitsNext c.args.catalogue.now.streams) (asked_fits c.args.catalogue.now.streams made) c.asked.ensures

-- no query has the name
pub returns-in_ok-name-in-Err-UnknownQuery-clause-says : goal.returns-in_ok-name-in-Err-UnknownQuery-clause-says
returns-in_ok-name-in-Err-UnknownQuery-clause-says c =
    let one : is_name c.args.name.now ≡ true = sym c.is_name.ensures.value ∙ c.if-not-is_name.false in
    refused_finds c.args.catalogue.now c.args.number (OfControl (fault.UnknownQuery c.in_ok-name-in-Err-UnknownQuery.name)) _ c.refused-in-Err-UnknownQuery.result
    (no_query c.args.catalogue.now c.args.name.now one c.in_ok-name-in-Err-UnknownQuery.name c.in_ok-name-in-Err-UnknownQuery.ensures (rw c.in-Err-UnknownQuery.field-0-is at c.in-Err-UnknownQuery.ensures.err)) c.refused-in-Err-UnknownQuery.ensures

-- the query of the name is read
pub returns-in_ok-name-in-Err-InUse-clause-says : goal.returns-in_ok-name-in-Err-InUse-clause-says
returns-in_ok-name-in-Err-InUse-clause-says c =
    let one : is_name c.args.name.now ≡ true = sym c.is_name.ensures.value ∙ c.if-not-is_name.false in
    refused_finds c.args.catalogue.now c.args.number (OfControl (fault.InUse c.in_ok-name-in-Err-InUse.name c.in-Err-InUse.reader)) _ c.refused-in-Err-InUse.result
    (is_read c.args.catalogue.now c.args.name.now one c.in_ok-name-in-Err-InUse.name c.in-Err-InUse.reader c.in_ok-name-in-Err-InUse.ensures (rw c.in-Err-InUse.field-0-is at c.in-Err-InUse.ensures.err)) c.refused-in-Err-InUse.ensures
