use Rattle.std.proofs.Common.{◌∙◌, take, sym, ap}
use Rattle.std.proofs.lemmas.List.{take_at, take-append-le}
use Rattle.std.specs.Prelude.{reverse}
use Rattle.long_lists.proofs.long_list.LongList.append.Goals as goal

-- the items that were added go again
pub returns-in-Err-clause-kept : goal.returns-in-Err-clause-kept
returns-in-Err-clause-kept g c =
    let len = c.len-len.result in
    c.truncate.ensures ∙ ap (take len) c.in-Err.ensures.kept ∙ sym (take-append-le len c.loop-item.self (reverse c.loop-item.backwards) c.loop-item.invariant.more) ∙ ap (take len) c.loop-item.invariant.all
    ∙ take_at c.args.self.now c.args.more len (sym c.len-len.ensures)
