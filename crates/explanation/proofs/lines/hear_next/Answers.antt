use Rattle.std.proofs.Common.{false, subst, sym}
use Rattle.std.proofs.lemmas.Result.{err_from_is_err_and}
use Rattle.explanation.specs.Hearing.{FailsBy, refused_left}
use Rattle.explanation.proofs.LinesLemmas.{fails_long, fails_taken, hears_none, hears_one}
use Rattle.explanation.proofs.lines.hear_next.Goals as goal

-- a line was heard
pub returns-in_ok-hear_line-in-Line-clause-heard : goal.returns-in_ok-hear_line-in-Line-clause-heard
returns-in_ok-hear_line-in-Line-clause-heard c =
    let taken = rw c.in-Line.is at c.next_line.follows.holds-at-none.0 in
    let left = c.next_line.follows.lender-at-none in
    ((_, hears_one c.args.streams.now c.in-Line.number c.in-Line.bytes.now c.args.feed.now left c.args.history.now c.hear_line.new.history taken c.next_line.follows.holds-at-none.1 c.in_ok-hear_line-in-Line.ensures.heard), taken.shorter)

-- a line is refused
pub returns-in_err-hear_line-in-Line-clause-stops : goal.returns-in_err-hear_line-in-Line-clause-stops
returns-in_err-hear_line-in-Line-clause-stops c =
    let taken = rw c.in-Line.is at c.next_line.follows.holds-at-none.0 in
    let left = c.next_line.follows.lender-at-none in
    let p = err_from_is_err_and c.from_residual.result c.from_residual.ensures.1 in
    rw (p.1, p.2) (fails_taken c.args.streams.now c.in-Line.number c.in-Line.bytes.now c.args.feed.now left c.args.history.now _ taken c.in_err-hear_line-in-Line.ensures.stops)

-- the next line is too long
pub returns-in-Long-clause-stops : goal.returns-in-Long-clause-stops
returns-in-Long-clause-stops c =
    let taken = rw c.in-Long.is at c.next_line.follows.holds-at-none.0 in
    subst (FailsBy (refused_left c.args.streams.now c.args.feed.now false c.args.history.now)) (sym c.too_long.ensures)
    (fails_long c.args.streams.now c.in-Long.number c.args.feed.now c.next_line.follows.lender-at-none c.args.history.now taken.0 taken.1)

-- no line has its end
pub returns-in-NotYet-clause-heard : goal.returns-in-NotYet-clause-heard
returns-in-NotYet-clause-heard c =
    let taken = rw c.in-NotYet.is at c.next_line.follows.holds-at-none.0 in
    (hears_none c.args.streams.now c.args.feed.now c.next_line.follows.lender-at-none c.args.history.now taken.0 c.next_line.follows.holds-at-none.1, taken.1)
