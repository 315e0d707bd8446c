use Rattle.std.proofs.Common.{◌≡◌, ◌∙◌, ◌+◌, ◌&&◌, ℕ, suc, ap, take, arith}
use Rattle.std.specs.List.{list_all}
use Rattle.instances.specs.Alive.{meets_bound}
use Rattle.scalar_expr.specs.Classes.{class_of, class_of_part}
use Rattle.instances.specs.Bounds.{started}
use Rattle.instances.proofs.BoundLemmas.{both_before, one_more_tested}
use Rattle.instances.proofs.expiry.expires_at.Goals as goal

pub loop-place-preserved : goal.loop-place-preserved
loop-place-preserved c time before =
    ap (λ k. list_all (λ part. meets_bound time (started c.args.from) (class_of part)) (take k c.args.condition.now)) (next c.loop-place.place)
    ∙ one_more_tested (meets_bound time (started c.args.from)) c.args.condition.now c.loop-place.place (class_of_part c.part.result) c.part.ensures
    ∙ (λ i. c.loop-place.invariant time before i && c.end_within.ensures time before i)
    ∙ both_before c.loop-place.end c.end_within.result c.min-end.result time c.min-end.ensures
  where
    next : (place : ℕ) → place + 1 ≡ suc place
    next place = omega arith
