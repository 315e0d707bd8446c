use Rattle.std.proofs.Common.{subst, List, ℕ}
use Rattle.epoch_draft.specs.Marks.{AreLowered}
use Rattle.epoch_draft.proofs.MarkLemmas.{all_below, lowered_all}
use Rattle.epoch_draft.proofs.marks.Marks.clear.Goals as goal

pub lower-requires : goal.lower-requires
lower-requires c = all_below c.args.self.now c.requires c.as_slice.result.now c.as_slice.ensures

-- no mark is left
pub returns-clause-are : goal.returns-clause-are
returns-clause-are c =
    lowered_all c.args.self.now c.lower.new.flags c.requires (subst (λ (ns : List ℕ). AreLowered ns c.args.self.now.flags c.lower.new.flags) c.as_slice.ensures c.lower.ensures) c.clear.new.self c.clear.ensures
