use Rattle.std.proofs.Common.{arith}
use Rattle.std.proofs.lemmas.Grind.{common_steps}
use Rattle.cel_print.proofs.Lists.{columns_by_first}
use Rattle.cel_print.proofs.statements.append_attrs.Goals as goal

pub returns-in_ok-append_attr-in-len1-up : goal.returns-in_ok-append_attr-in-len1-up
returns-in_ok-append_attr-in-len1-up c = grind (arith, common_steps, columns_by_first c.args.attrs.now c.first-item.result c.in-len1-up.len_at_least c.first-item.is)
