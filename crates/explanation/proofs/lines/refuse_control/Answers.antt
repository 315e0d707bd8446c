use Rattle.std.proofs.Common.{ap, cond, Err}
use Rattle.std.proofs.lemmas.Str.{is_utf8-from_IsUtf8}
use Rattle.event_csv.specs.declared.fault.LineFault.TheVariants.{NotUtf8}
use Rattle.courses.specs.declared.fault.ControlFault.TheVariants.{NotHere}
use Rattle.courses.specs.ControlLines.{OfControl, OfLine}
use Rattle.explanation.specs.Hearing.{refusal_behind}
use Rattle.explanation.proofs.LinesLemmas.{not_utf8}
use Rattle.explanation.proofs.lines.refuse_control.Goals as goal

-- a text is no control line that is taken
pub returns-in-Ok : goal.returns-in-Ok
returns-in-Ok c = λ history. ap (λ b. refusal_behind history c.args.number (cond b (Err (OfControl NotHere)) (Err (OfLine NotUtf8)))) (is_utf8-from_IsUtf8 c.args.bytes.now c.in-Ok.ensures.cases.1)

-- what is no text has that fault
pub returns-in-Err : goal.returns-in-Err
returns-in-Err c = λ history. ap (λ b. refusal_behind history c.args.number (cond b (Err (OfControl NotHere)) (Err (OfLine NotUtf8)))) (not_utf8 c.args.bytes.now c.in-Err.ensures.cases.0)
