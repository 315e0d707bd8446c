use Rattle.std.proofs.Common.{◌≡◌, ◌≤◌, drop, length}
use Rattle.source_merge.specs.Sources.{turn_from}
use Rattle.source_merge.proofs.source.turn_in.Given as goal

-- the turn among the files from here on is known
abbrev pub invariant-loop-file : goal.invariant-loop-file
invariant-loop-file l = record {
  within : l.file ≤ length l.sources;
  turn : l.turn ≡ turn_from l.file (drop l.file l.sources);
}

abbrev pub decreases-loop-file : goal.decreases-loop-file
decreases-loop-file l = l.file
