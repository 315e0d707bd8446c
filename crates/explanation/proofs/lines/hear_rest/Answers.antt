use Rattle.std.proofs.Common.{[], ◌∷◌, true}
use Rattle.std.proofs.lemmas.Result.{IfErr-weaker, on_ok_weaker}
use Rattle.event_csv.specs.Lines.{Line}
use Rattle.courses.specs.EventLines.{found_here}
use Rattle.explanation.specs.Hearing.{FailsBy, refusal_behind, refused_left}
use Rattle.explanation.proofs.LinesLemmas.{fails_next, rest_heard, rest_none}
use Rattle.explanation.proofs.lines.hear_rest.Goals as goal

-- a line was left, and heard
pub returns-in-Line-clause-heard : goal.returns-in-Line-clause-heard
returns-in-Line-clause-heard c =
    let last = rw c.in-Line.is at c.last_line.ensures in
    on_ok_weaker c.hear_line.result (λ adds. rest_heard c.args.streams.now c.in-Line.number c.in-Line.bytes.now c.args.feed.now c.args.history.now c.hear_line.new.history last.0 adds) c.hear_line.ensures.heard

-- or it is refused
pub returns-in-Line-clause-stops : goal.returns-in-Line-clause-stops
returns-in-Line-clause-stops c =
    let last = rw c.in-Line.is at c.last_line.ensures in
    let line : Line = record { number = c.in-Line.number; bytes = c.in-Line.bytes.now } in
    IfErr-weaker c.hear_line.result (FailsBy (refusal_behind c.args.history.now c.in-Line.number (found_here c.args.streams.now c.in-Line.bytes.now))) (FailsBy (refused_left c.args.streams.now c.args.feed.now true c.args.history.now))
    (λ why fails. fails_next c.args.streams.now line [] c.args.feed.now true c.args.history.now why last.0 fails) c.hear_line.ensures.stops

-- it isn't too long
pub returns-in-Long-clause-stops : goal.returns-in-Long-clause-stops
returns-in-Long-clause-stops c = absurd (rw c.in-Long.is at c.last_line.ensures)

-- no line was left
pub returns-in-NotYet-clause-heard : goal.returns-in-NotYet-clause-heard
returns-in-NotYet-clause-heard c = rest_none c.args.streams.now c.args.feed.now c.args.history.now (rw c.in-NotYet.is at c.last_line.ensures)
