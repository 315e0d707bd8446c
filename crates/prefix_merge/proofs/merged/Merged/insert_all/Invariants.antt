use Rattle.std.proofs.Common.{[]}
use Rattle.prefix_merge.specs.Coming.{ListsCome}
use Rattle.prefix_merge.proofs.TurnLemmas.{HasInserted}
use Rattle.prefix_merge.proofs.merged.Merged.insert_all.Given as goal

-- the lines before the place have come, and the states that came are listed
abbrev pub invariant-loop-place : goal.invariant-loop-place
invariant-loop-place l = record { so_far : HasInserted l.lines l.ends l.birth l.place l.initial.self l.self; listed : ListsCome l.initial.self l.self [] l.came }
