use Rattle.std.proofs.Common.{length, List}
use Rattle.event_csv.specs.Lines.{Line}
use Rattle.explanation.specs.Hearing.{HearsSome}
use Rattle.explanation.proofs.lines.hear_lines.Given as goal

-- some lines were heard
abbrev pub invariant-lines : goal.invariant-lines
invariant-lines l = (lines : List Line) × HearsSome l.streams lines l.initial.feed l.feed l.initial.history l.history

abbrev pub decreases-lines : goal.decreases-lines
decreases-lines l = length l.feed.rest
