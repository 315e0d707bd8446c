use Rattle.std.proofs.Common.{◌∙◌, sym, refl}
use Rattle.event_csv.proofs.LineFacts.{strip_bom-drop}
use Rattle.event_csv.proofs.place.mark_len.Goals as goal

pub returns-then-is_mark-clause-mark : goal.returns-then-is_mark-clause-mark
returns-then-is_mark-clause-mark c = strip_bom-drop c.args.text.now c.requires ∙ rw (sym c.is_mark.ensures ∙ c.if-is_mark.true) refl

pub returns-else-is_mark-clause-mark : goal.returns-else-is_mark-clause-mark
returns-else-is_mark-clause-mark c = strip_bom-drop c.args.text.now c.requires ∙ rw (sym c.is_mark.ensures ∙ c.if-is_mark.false) refl
