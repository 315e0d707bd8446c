use Rattle.std.proofs.Common.{◌≡◌, ◌+◌, arith, take}
use Rattle.std.specs.Prelude.{IsUtf8}
use Rattle.std.proofs.lemmas.List.{take_rest}
use Rattle.event_csv.proofs.QuickFacts.{rest-all, rest-cut}
use Rattle.event_csv.proofs.front.take_rest.Goals as goal

pub returns-then-end-text : goal.returns-then-end-text
returns-then-end-text c =
    let i = c.in_ok-end.end in
    let s = c.args.text.now in
    let text : IsUtf8 (take i s) = c.in_ok-field.ensures.1 in
    let field : c.in_ok-field.field.now ≡ take i s = c.in_ok-field.ensures.0 in
    rw (field, take_rest s (i + 1)) (rest-cut s i c.in_ok-end.is_ascii c.in_ok-end.ensures c.if-end-text.true text)

pub returns-else-end-text : goal.returns-else-end-text
returns-else-end-text c =
    let i = c.in_ok-end.end in
    let s = c.args.text.now in
    let h = c.in_ok-end.ensures in
    let text : IsUtf8 (take i s) = c.in_ok-field.ensures.1 in
    let field : c.in_ok-field.field.now ≡ take i s = c.in_ok-field.ensures.0 in
    rw field (rest-all s i c.in_ok-end.is_ascii h (omega (arith, h.within, c.if-end-text.false)) text)
