use Rattle.std.proofs.Common.{◌∙◌, sym}
use Rattle.event_csv.proofs.PlainLines.{line_fields-plain}
use Rattle.event_csv.proofs.fields.is_plain.Goals as goal

pub returns-then-not-may_have_mark : goal.returns-then-not-may_have_mark
returns-then-not-may_have_mark c = λ plain.
    line_fields-plain c.args.line.now (c.may_have_mark.ensures c.if-not-may_have_mark.true) (sym c.has_no_quote.ensures ∙ plain) c.requires
