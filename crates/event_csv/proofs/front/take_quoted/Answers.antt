use Rattle.std.proofs.Common.{arith}
use Rattle.std.proofs.lemmas.List.{take_rest}
use Rattle.event_csv.proofs.QuoteFacts.{quoted-cut, quoted-last}
use Rattle.event_csv.proofs.front.take_quoted.Goals as goal

pub returns-then-rest-eq0 : goal.returns-then-rest-eq0
returns-then-rest-eq0 c = quoted-last c.args.text.now c.in_ok-field.field.now c.in_ok-field.rest.now c.in_ok-field.ensures c.if-rest-eq0.true

pub returns-then-rest-eq44 : goal.returns-then-rest-eq44
returns-then-rest-eq44 c =
    let rest = c.in_ok-field.rest.now in
    rw (take_rest rest 1) (quoted-cut c.args.text.now c.in_ok-field.field.now rest c.in_ok-field.ensures (omega (arith, c.if-rest-eq0.false)) c.if-rest-eq44.true)
