use Rattle.std.proofs.Common.{◌≡◌, ◌++◌, length}
use Rattle.load_texts.specs.EventText.{lines_from}
use Rattle.load_texts.proofs.text.event_text.Given as goal

-- the lines made and those left are all lines
abbrev pub invariant-lines : goal.invariant-lines
invariant-lines l = l.text.items ++ l.lines ≡ lines_from l.fn.seed 0 l.fn.events

-- the bytes left
abbrev pub decreases-lines : goal.decreases-lines
decreases-lines l = length l.lines
