use Rattle.std.proofs.Common.{length, arith}
use Rattle.event_csv.proofs.PlaceFacts.{NoFeed-join, feed-left, next-long, number-fits, part-left}
use Rattle.event_csv.proofs.place.take_line.Goals as goal

pub returns-then-end-place-gt-LINE_LIMIT-clause-taken :
    goal.returns-then-end-place-gt-LINE_LIMIT-clause-taken
returns-then-end-place-gt-LINE_LIMIT-clause-taken c =
    let feed = feed-left c.args.bytes.now c.lines.place c.in-Some.end c.lines.invariant.place c.in-Some.ensures in (
      c.lines.invariant.given,
      next-long c.args.bytes.now c.lines.place c.in-Some.end (omega (arith, c.if-end-place-gt-LINE_LIMIT.true)) (omega (arith, feed.within)) feed.first c.lines.invariant.begun,
    )

pub overflow_add-number : goal.overflow_add-number
overflow_add-number c =
    let feed = feed-left c.args.bytes.now c.lines.place c.in-Some.end c.lines.invariant.place c.in-Some.ensures in
    omega (arith, number-fits c.args.bytes.now c.lines.place c.lines.invariant.place (omega (arith, feed.after, feed.within)))

pub returns-then-bytes-place-gt-LINE_LIMIT-clause-taken :
    goal.returns-then-bytes-place-gt-LINE_LIMIT-clause-taken
returns-then-bytes-place-gt-LINE_LIMIT-clause-taken c =
    let here = c.lines.invariant.place in
    let none = NoFeed-join c.args.bytes.now c.lines.place.start c.lines.place.searched (length c.args.bytes.now) here.no_feed c.in_default.ensures in (
      c.lines.invariant.given,
      next-long c.args.bytes.now c.lines.place (length c.args.bytes.now) (omega (arith, c.if-bytes-place-gt-LINE_LIMIT.true)) (omega arith) none c.lines.invariant.begun,
    )

pub returns-clause-taken : goal.returns-clause-taken
returns-clause-taken c =
    let here = c.lines.invariant.place in
    let none = NoFeed-join c.args.bytes.now c.lines.place.start c.lines.place.searched (length c.args.bytes.now) here.no_feed c.in_default.ensures in (
      c.lines.invariant.given,
      part-left c.args.bytes.now c.lines.place (omega (arith, here.in_order, here.within)) (omega (arith, c.if-bytes-place-gt-LINE_LIMIT.false)) none c.lines.invariant.begun,
    )

pub overflow_add-result : goal.overflow_add-result
overflow_add-result c =
    let feed = feed-left c.args.bytes.now c.lines.place c.in-Some.end c.lines.invariant.place c.in-Some.ensures in
    omega (arith, number-fits c.args.bytes.now c.lines.place c.lines.invariant.place (omega (arith, feed.after, feed.within)))
