use Rattle.std.proofs.Common.{◌∙◌, ◌<◌, ◌≤◌, ◌&&◌, nat_le, ap, sym, subst, take, ℕ}
use Rattle.std.specs.List.{All}
use Rattle.semantics.specs.Nexts.{is_eligible}
use Rattle.derivations.specs.DerivedTuples.{DerivedTuple}
use Rattle.derivations.proofs.RisingLemmas.{by_step, by_stops, early_not_by}
use Rattle.derivations.proofs.matching.eligible_by.Goals as goal

-- what stands before the first place isn't eligible
pub loop-place-init : goal.loop-place-init
loop-place-init g c =
    c.new-nexts.ensures
    ∙ sym (early_not_by c.args.condition.now c.args.binding.now c.args.time (take c.start_after-place.result c.args.found.now)
    (subst (λ (t : ℕ). All (λ (x : DerivedTuple). x.tuple.from ≤ t) (take c.start_after-place.result c.args.found.now)) c.at.ensures.value c.start_after-place.ensures.before))

-- what stands from here on is detected later
pub returns-then-is_over : goal.returns-then-is_over
returns-then-is_over g c =
    let over = c.is_over.ensures c.if-is_over.true in
    c.loop-place.invariant
    ∙ by_stops c.args.condition.now c.args.binding.now c.args.found.now c.loop-place.place c.args.time c.get-one.result.now over.1 c.get-one.ensures.value
    (subst (λ (n : ℕ). c.args.time < n) (c.at-in-loop-place.ensures.value ∙ ap (λ (y : DerivedTuple). y.tuple.at) c.one.view_is) over.0)

-- one more tuple was added, or passed over
pub loop-place-preserved : goal.loop-place-preserved
loop-place-preserved g c =
    by_step c.args.condition.now c.args.binding.now c.args.found.now c.loop-place.place c.args.time c.get-one.result.now c.is_eligible_by-is_next.result c.loop-place.nexts c.add_where.new.out c.get-one.ensures.value
    (c.is_eligible_by-is_next.ensures ∙ ap (λ (y : DerivedTuple). is_eligible c.args.condition.now c.args.binding.now y.tuple && nat_le y.tuple.at c.args.time) c.one.view_is)
    c.loop-place.invariant c.in_ok-add_where.ensures
