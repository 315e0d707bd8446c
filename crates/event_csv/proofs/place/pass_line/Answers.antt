use Rattle.std.proofs.Common.{◌∙◌, sym, arith}
use Rattle.event_csv.proofs.PlaceFacts.{IsPlace-past, feeds-past, gives-kept, gives-skipped, length-piece, line-kept, piece, piece-lacks}
use Rattle.event_csv.proofs.place.pass_line.Goals as goal

pub returns-then-skipped-clause-place : goal.returns-then-skipped-clause-place
returns-then-skipped-clause-place c =
    rw (c.is_met_after-met.ensures, c.without_return-line.ensures) (IsPlace-past c.args.bytes.now c.args.place.now c.args.end c.requires.place c.requires.feed)

pub returns-else-skipped-clause-place : goal.returns-else-skipped-clause-place
returns-else-skipped-clause-place c =
    rw (c.is_met_after-met.ensures, c.without_return-line.ensures) (IsPlace-past c.args.bytes.now c.args.place.now c.args.end c.requires.place c.requires.feed)

pub returns-then-skipped-clause-feeds : goal.returns-then-skipped-clause-feeds
returns-then-skipped-clause-feeds c = feeds-past c.args.bytes.now c.args.place.now c.args.end c.requires.feed

pub returns-else-skipped-clause-feeds : goal.returns-else-skipped-clause-feeds
returns-else-skipped-clause-feeds c = feeds-past c.args.bytes.now c.args.place.now c.args.end c.requires.feed

pub returns-then-skipped-clause-given : goal.returns-then-skipped-clause-given
returns-then-skipped-clause-given c =
    let skipped = rw c.without_return-line.ensures at (sym c.is_skipped-skipped.ensures ∙ c.if-skipped.true) in
    rw (c.is_met_after-met.ensures, c.without_return-line.ensures) (gives-skipped c.args.bytes.now c.args.place.now c.args.end c.requires.feed c.requires.short c.requires.begun skipped)

pub returns-else-skipped-clause-given : goal.returns-else-skipped-clause-given
returns-else-skipped-clause-given c =
    let kept = rw c.without_return-line.ensures at (sym c.is_skipped-skipped.ensures ∙ c.if-skipped.false) in
    let feed = c.requires.feed in
    let a = piece c.args.bytes.now c.args.place.now.start c.args.end in
    rw (c.is_met_after-met.ensures, c.without_return-line.ensures) (
      gives-kept c.args.bytes.now c.args.place.now c.args.end feed c.requires.short c.requires.begun kept,
      line-kept c.args.place.now.met a (piece-lacks c.args.bytes.now c.args.place.now.start c.args.end feed.after (omega (arith, feed.within)) feed.first)
          (omega (arith, length-piece c.args.bytes.now c.args.place.now.start c.args.end feed.after (omega (arith, feed.within)), c.requires.short)) kept,
    )
