use Rattle.std.proofs.Common.{◌≡◌, ◌∙◌, ◌+◌, ◌&&◌, ℕ, suc, ap, take, arith}
use Rattle.std.specs.List.{list_all}
use Rattle.instances.specs.Alive.{meets_bound}
use Rattle.scalar_expr.specs.Classes.{class_of, class_of_part}
use Rattle.instances.specs.Bounds.{started}
use Rattle.instances.proofs.BoundLemmas.{both_at_most, one_more_tested}
use Rattle.instances.proofs.bounds.earliest_alive.Goals as goal

pub loop-place-preserved : goal.loop-place-preserved
loop-place-preserved c from =
    ap (λ k. list_all (λ part. meets_bound (c.args.now + 1) (started from) (class_of part)) (take k c.args.condition.now)) (next c.loop-place.place)
    ∙ one_more_tested (meets_bound (c.args.now + 1) (started from)) c.args.condition.now c.loop-place.place (class_of_part c.part.result) c.part.ensures
    ∙ (λ i. c.loop-place.invariant from i && c.earliest_within.ensures from i)
    ∙ both_at_most c.loop-place.earliest c.earliest_within.result c.later-earliest.result from c.later-earliest.ensures
  where
    next : (place : ℕ) → place + 1 ≡ suc place
    next place = omega arith
