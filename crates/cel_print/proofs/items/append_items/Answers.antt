use Rattle.std.proofs.Common.{arith}
use Rattle.std.proofs.lemmas.Grind.{common_steps}
use Rattle.cel_print.proofs.Lists.{items_by_first}
use Rattle.cel_print.proofs.items.append_items.Goals as goal

pub returns-in_ok-append_item-in-len1-up : goal.returns-in_ok-append_item-in-len1-up
returns-in_ok-append_item-in-len1-up c = grind (arith, common_steps, items_by_first c.args.items.now c.first-item.result c.in-len1-up.len_at_least c.first-item.is)
