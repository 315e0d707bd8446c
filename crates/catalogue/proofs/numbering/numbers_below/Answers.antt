use Rattle.std.proofs.Common.{◌∙◌, ◌++◌, ◌∷◌, [], ap}
use Rattle.splitter.proofs.RangeLemmas.{range_next}
use Rattle.catalogue.proofs.numbering.numbers_below.Goals as goal

-- one number more
pub loop-number-preserved : goal.loop-number-preserved
loop-number-preserved c = c.in_ok-add.ensures.ok ∙ ap (λ ns. ns ++ c.loop-number.number ∷ []) c.loop-number.invariant ∙ range_next c.loop-number.number
