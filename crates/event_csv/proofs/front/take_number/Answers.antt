use Rattle.std.proofs.Common.{◌+◌, arith}
use Rattle.std.proofs.lemmas.List.{take_rest}
use Rattle.event_csv.proofs.QuickFacts.{number-all, number-cut}
use Rattle.event_csv.proofs.front.take_number.Goals as goal

pub returns-then-end-text : goal.returns-then-end-text
returns-then-end-text c = number-all c.args.text.now _ _ c.few_digits-number.ensures (λ e. absurd (c.if-end-eq0.false e)) c.if-end-text.true

pub returns-then-text-end-eq44 : goal.returns-then-text-end-eq44
returns-then-text-end-eq44 c =
    let s = c.args.text.now in
    let i = c.few_digits-number.result.1 in
    let has = c.few_digits-number.ensures in
    rw (take_rest s (i + 1)) (number-cut s _ i has (λ e. absurd (c.if-end-eq0.false e)) (omega (arith, has.within, c.if-end-text.false)) c.if-text-end-eq44.true)
