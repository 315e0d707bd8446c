use Rattle.std.proofs.Common.{◌≡◌, map, take}
use Rattle.cel_grammar.specs.Views.{statement_of}
use Rattle.plan_text.specs.Reads.{reads_once}
use Rattle.plan_text.proofs.reads.reads_in.Given as goal

-- what the queries so far read
abbrev pub invariant-loop-place : goal.invariant-loop-place
invariant-loop-place l = l.reads ≡ reads_once (take l.place (map statement_of l.file.statements))
