use Rattle.std.proofs.Common.{[], ◌∷◌, subst, sym}
use Rattle.event_csv.specs.Lines.{Line}
use Rattle.std.proofs.lemmas.Result.{IfOk-weaker}
use Rattle.session.specs.Says.{Says, Shows, read_as}
use Rattle.session.proofs.ReadingLemmas.{shows_line, shows_long, shows_none}
use Rattle.session.proofs.reading.next_reading.Goals as goal

-- a line was taken
pub returns-in-Line-clause-shows : goal.returns-in-Line-clause-shows
returns-in-Line-clause-shows c =
    let taken = rw c.in-Line.is at c.next_line.follows.holds-at-none.0 in
    let catalogue = c.args.catalogue.now in
    let new = c.next_line.follows.lender-at-none in
    IfOk-weaker c.read_soon.result (λ handed. Says catalogue c.in-Line.number c.in-Line.bytes.now (read_as handed)) (λ handed. Shows catalogue c.args.feed.now new (read_as handed))
    (λ handed says. shows_line catalogue c.args.feed.now new c.in-Line.number c.in-Line.bytes.now (read_as handed) taken says) c.read_soon.ensures.says

-- the next line is too long
pub returns-in_ok-handed-in-Long-clause-shows : goal.returns-in_ok-handed-in-Long-clause-shows
returns-in_ok-handed-in-Long-clause-shows c =
    let taken = rw c.in-Long.is at c.next_line.follows.holds-at-none.0 in
    let new = c.next_line.follows.lender-at-none in
    rw c.into_inner.ensures (subst (Shows c.args.catalogue.now c.args.feed.now new) (sym c.in_ok-handed-in-Long.ensures) (shows_long c.args.catalogue.now c.args.feed.now new c.in-Long.number taken.0 taken.1))

-- no line has its end
pub returns-in-NotYet-clause-shows : goal.returns-in-NotYet-clause-shows
returns-in-NotYet-clause-shows c =
    let taken = rw c.in-NotYet.is at c.next_line.follows.holds-at-none.0 in
    shows_none c.args.catalogue.now c.args.feed.now c.next_line.follows.lender-at-none taken.0 taken.1

-- it is gone from the feed
pub returns-in-Line-clause-gone : goal.returns-in-Line-clause-gone
returns-in-Line-clause-gone c =
    let taken = rw c.in-Line.is at c.next_line.follows.holds-at-none.0 in
    let line : Line = record { number = c.in-Line.number; bytes = c.in-Line.bytes.now } in
    record { lines = line ∷ []; gives = taken.given; feeds = c.next_line.follows.holds-at-none.1 }
