-- Lines that are taken from a feed, one after another.
use Rattle.std.proofs.Common.{◌∙◌, ap, sym, ◌++◌, append_assoc}
use Rattle.event_csv.specs.Fed.{Fed, fed_more, unread_lines}
use Rattle.session.specs.HandsOutSomeLines.{HandsOutSomeLines}

-- lines that are gone one after another are gone together
pub Gone-trans : {old mid new : Fed} → HandsOutSomeLines old mid → HandsOutSomeLines mid new → HandsOutSomeLines old new
Gone-trans {old} {mid} {new} one two = record {
  lines = one.lines ++ two.lines;
  gives = λ more ended. one.gives more ended ∙ ap (λ ls. one.lines ++ ls) (two.gives more ended) ∙ sym (append_assoc one.lines two.lines (unread_lines (fed_more new more) ended));
  feeds = two.feeds ∙ one.feeds;
}
