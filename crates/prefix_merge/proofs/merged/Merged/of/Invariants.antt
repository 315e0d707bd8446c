use Rattle.std.proofs.Common.{◌<◌, ◌↔◌, ℕ, take}
use Rattle.automaton.specs.NetworkLines.{HasEndings}
use Rattle.automaton.specs.Plain.{numbered}
use Rattle.prefix_merge.specs.Merging.{HasEnd, IsMerged}
use Rattle.prefix_merge.proofs.merged.Merged.of.Given as goal

-- the lines so far have come, and their ends have the numbers so far
abbrev pub invariant-loop-place : goal.invariant-loop-place
invariant-loop-place l = record { endings : HasEndings l.merged (numbered 0 (take l.place l.lines)); ends : (end : ℕ) → HasEnd l.merged end ↔ (end < l.place); merged : IsMerged l.merged }
