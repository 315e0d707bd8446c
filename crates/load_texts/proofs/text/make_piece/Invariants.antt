use Rattle.std.proofs.Common.{◌≡◌, ◌++◌, length}
use Rattle.load_texts.proofs.text.make_piece.Given as goal

-- the lines made and those left are the same
abbrev pub invariant-lines : goal.invariant-lines
invariant-lines l = l.text.items ++ l.lines ≡ l.fn.text.items ++ l.fn.lines

-- the bytes left
abbrev pub decreases-lines : goal.decreases-lines
decreases-lines l = length l.lines
