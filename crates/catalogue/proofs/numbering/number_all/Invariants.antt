use Rattle.catalogue.proofs.NumberedLemmas.{AreFirst}
use Rattle.catalogue.proofs.numbering.number_all.Given as goal

-- what the queries so far publish is there
abbrev pub invariant-loop-place : goal.invariant-loop-place
invariant-loop-place l = AreFirst l.fn.declared l.expressions l.place l.hidden l.published
