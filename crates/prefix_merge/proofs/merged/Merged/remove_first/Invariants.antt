use Rattle.std.proofs.Common.{take}
use Rattle.std.specs.Prelude.{All}
use Rattle.prefix_merge.specs.Coming.{NotesLeft}
use Rattle.prefix_merge.specs.Merging.{HasEnd}
use Rattle.prefix_merge.proofs.TurnLemmas.{HasRemoved}
use Rattle.prefix_merge.proofs.merged.Merged.remove_first.Given as goal

-- the ends from a place on have left, and the others are there, and the states that left are noted
abbrev pub invariant-loop-more : goal.invariant-loop-more
invariant-loop-more l = record {
  so_far : HasRemoved l.ends l.count l.more l.initial.self l.self;
  there : All (HasEnd l.self) (take l.more l.ends);
  noted : NotesLeft l.initial.self l.self l.initial.left l.left;
}

abbrev pub decreases-loop-more : goal.decreases-loop-more
decreases-loop-more l = l.more
