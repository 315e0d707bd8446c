use Rattle.splitter.proofs.GrowLemmas.{GrowsFrom}
use Rattle.splitter.proofs.kinds.add_kinds.Given as goal

-- the kinds grow on by the lines from here on
abbrev pub invariant-loop-line : goal.invariant-loop-line
invariant-loop-line l = GrowsFrom l.initial.kinds l.line-items l.line-index l.kinds
