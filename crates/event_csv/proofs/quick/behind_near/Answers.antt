use Rattle.std.proofs.Common.{◌∙◌, Some, ap}
use Rattle.event_csv.proofs.QuickFacts.{some-stream}
use Rattle.event_csv.proofs.quick.behind_near.Goals as goal

pub returns-then-declared : goal.returns-then-declared
returns-then-declared c =
    some-stream c.args.streams.now c.args.line.now c.in_ok-name.name.now c.args.near c.behind_name.result c.in_ok-name.ensures.number c.in_ok-name.ensures.within
    (c.declared.ensures ∙ ap Some c.if-declared.true) c.behind_name.ensures
