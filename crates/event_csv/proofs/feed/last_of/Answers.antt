use Rattle.std.proofs.Common.{◌∙◌, sym}
use Rattle.std.proofs.lemmas.List.{take_rest}
use Rattle.event_csv.proofs.LastFacts.{LeavesLast-line, LeavesLast-none}
use Rattle.event_csv.proofs.feed.last_of.Goals as goal

pub returns-then-is_skipped : goal.returns-then-is_skipped
returns-then-is_skipped c =
    let line = rw (take_rest c.args.bytes.now c.args.place.start) at c.without_return-line.ensures in
    LeavesLast-none c.args.bytes.now c.args.place c.requires.begun c.requires.part (rw line at (sym c.is_skipped.ensures ∙ c.if-is_skipped.true))

pub returns : goal.returns
returns c =
    let line = rw (take_rest c.args.bytes.now c.args.place.start) at c.without_return-line.ensures in
    rw line (LeavesLast-line c.args.bytes.now c.args.place c.requires.begun c.requires.part (rw line at (sym c.is_skipped.ensures ∙ c.if-is_skipped.false)))
