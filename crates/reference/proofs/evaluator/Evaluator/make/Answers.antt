use Rattle.std.proofs.Common.{◌∙◌, ◌+◌, [], ◌∷◌, ◌++◌, ap, subst, sym}
use Rattle.reference.specs.Hearing.{HasHeard}
use Rattle.reference.proofs.HearingLemmas.{one_more_stream}
use Rattle.reference.proofs.evaluator.Evaluator.make.Goals as goal

-- one more empty list was put
pub loop-preserved : goal.loop-preserved
loop-preserved c =
    subst (HasHeard (c.loop.counter + 1) []) (sym (c.in_ok-add.ensures.ok ∙ ap (λ list. c.loop.lists ++ list ∷ []) c.new.ensures)) (one_more_stream c.loop.counter c.loop.lists c.loop.invariant)
