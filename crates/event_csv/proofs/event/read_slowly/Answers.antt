use Rattle.std.proofs.Common.{◌≡◌, ◌∙◌, List, ℕ, Result, Ok, Some, None, IfOk, IfErr, sym, ap, subst}
use Rattle.csv.specs.Records.{fields_of}
use Rattle.event_csv.specs.Event.{Tells, event, fields_event, record_event}
use Rattle.event_csv.specs.Fields.{line_fields, parts_of}
use Rattle.event_csv.specs.declared.event.Seen.{Seen}
use Rattle.event_csv.specs.declared.fault.LineFault.{LineFault}
use Rattle.event_csv.proofs.EventFacts.{event-not_text, event-text}
use Rattle.event_csv.proofs.event.read_slowly.Goals as goal

pub returns-in_default-clause-bad : goal.returns-in_default-clause-bad
returns-in_default-clause-bad c = event-not_text c.args.streams.now c.args.line.now c.requires.short c.in_default.ensures.cases.0

pub returns-then-is_plain-clause-ok : goal.returns-then-is_plain-clause-ok
returns-then-is_plain-clause-ok c =
    let streams = c.args.streams.now in
    let cut : event streams c.args.line.now ≡ fields_event streams (parts_of c.in-Ok.text.now) =
    event-text streams c.args.line.now c.requires.short c.in-Ok.ensures.cases.1 ∙ ap (record_event streams) (c.is_plain.ensures c.if-is_plain.true)
    ∙ ap (λ (t : List ℕ). fields_event streams (parts_of t)) (sym c.in-Ok.ensures.cases.0) in
    let Is : Result Seen LineFault → Type 0 = λ e. IfOk c.read_fields.result (λ seen. e ≡ Ok seen) in
    subst Is (sym cut) c.read_fields.ensures.ok

pub returns-then-is_plain-clause-bad : goal.returns-then-is_plain-clause-bad
returns-then-is_plain-clause-bad c =
    let streams = c.args.streams.now in
    let cut : event streams c.args.line.now ≡ fields_event streams (parts_of c.in-Ok.text.now) =
    event-text streams c.args.line.now c.requires.short c.in-Ok.ensures.cases.1 ∙ ap (record_event streams) (c.is_plain.ensures c.if-is_plain.true)
    ∙ ap (λ (t : List ℕ). fields_event streams (parts_of t)) (sym c.in-Ok.ensures.cases.0) in
    let Is : Result Seen LineFault → Type 0 = λ e. IfErr c.read_fields.result (Tells e) in
    subst Is (sym cut) c.read_fields.ensures.bad

pub returns-in-Ok-None-clause-bad : goal.returns-in-Ok-None-clause-bad
returns-in-Ok-None-clause-bad c =
    let none : None ≡ line_fields c.args.line.now = rw c.in-Ok-None.field-0-is at c.in-Ok-None.ensures in
    event-text c.args.streams.now c.args.line.now c.requires.short c.in-Ok.ensures.cases.1 ∙ ap (record_event c.args.streams.now) (sym none)

pub returns-in-Ok-Some-clause-ok : goal.returns-in-Ok-Some-clause-ok
returns-in-Ok-Some-clause-ok c =
    let streams = c.args.streams.now in
    let found : Some (fields_of c.in-Ok-Some.row) ≡ line_fields c.args.line.now = rw c.in-Ok-Some.field-0-is at c.in-Ok-Some.ensures in
    let read : event streams c.args.line.now ≡ fields_event streams (fields_of c.in-Ok-Some.row) =
    event-text streams c.args.line.now c.requires.short c.in-Ok.ensures.cases.1 ∙ ap (record_event streams) (sym found) in
    let Is : Result Seen LineFault → Type 0 = λ e. IfOk c.read_fields-in-Ok-Some.result (λ seen. e ≡ Ok seen) in
    subst Is (sym read) c.read_fields-in-Ok-Some.ensures.ok

pub returns-in-Ok-Some-clause-bad : goal.returns-in-Ok-Some-clause-bad
returns-in-Ok-Some-clause-bad c =
    let streams = c.args.streams.now in
    let found : Some (fields_of c.in-Ok-Some.row) ≡ line_fields c.args.line.now = rw c.in-Ok-Some.field-0-is at c.in-Ok-Some.ensures in
    let read : event streams c.args.line.now ≡ fields_event streams (fields_of c.in-Ok-Some.row) =
    event-text streams c.args.line.now c.requires.short c.in-Ok.ensures.cases.1 ∙ ap (record_event streams) (sym found) in
    let Is : Result Seen LineFault → Type 0 = λ e. IfErr c.read_fields-in-Ok-Some.result (Tells e) in
    subst Is (sym read) c.read_fields-in-Ok-Some.ensures.bad
