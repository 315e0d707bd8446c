use Rattle.event_csv.proofs.QuickFacts.{parts-event}
use Rattle.event_csv.proofs.quick.read_quickly.Goals as goal

pub returns-in-Ok : goal.returns-in-Ok
returns-in-Ok c =
    rw c.in-Ok.ensures.value (
    parts-event c.args.streams.now c.args.line.now _ _ c.in_ok-stream.stream c.schema.result.now (c.in_ok-from.from, c.in_ok-from.at) c.in_ok-vals.vals c.requires.line
    (c.may_have_mark.ensures c.if-may_have_mark.false) c.in_ok-stream.ensures c.schema.ensures c.in_ok-from.ensures c.in_ok-vals.ensures
    )
