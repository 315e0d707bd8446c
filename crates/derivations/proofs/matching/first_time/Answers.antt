use Rattle.std.proofs.Common.{◌∙◌, ◌≤◌, ap, sym, subst, take, ℕ}
use Rattle.std.specs.List.{All}
use Rattle.std.proofs.lemmas.Option.{get_or_from_slice_get, slice_get_within}
use Rattle.semantics.specs.Nexts.{is_eligible}
use Rattle.derivations.specs.DerivedTuples.{DerivedTuple}
use Rattle.derivations.specs.Earliest.{IsPast, least_at, lesser_if}
use Rattle.derivations.proofs.EarliestLemmas.{noted_step}
use Rattle.derivations.proofs.RisingLemmas.{early_not_eligible, least_stops}
use Rattle.derivations.proofs.matching.first_time.Goals as goal

-- what stands before the first place isn't eligible
pub loop-place-init : goal.loop-place-init
loop-place-init g c =
    sym (ap least_at (early_not_eligible c.args.condition.now c.args.binding.now (take c.start_after-place.result c.args.found.now)
    (subst (λ (t : ℕ). All (λ (x : DerivedTuple). x.tuple.from ≤ t) (take c.start_after-place.result c.args.found.now)) c.at.ensures.value c.start_after-place.ensures.before)))

-- what stands from here on is detected later
pub returns-then-is_over : goal.returns-then-is_over
returns-then-is_over g c =
    let over = c.is_over.ensures c.if-is_over.true in
    least_stops c.args.condition.now c.args.binding.now c.args.found.now c.loop-place.place c.get-one.result.now c.loop-place.first over.1 c.get-one.ensures.value c.loop-place.invariant
    (subst (IsPast c.loop-place.first) (c.at-in-loop-place.ensures.value ∙ ap (λ (y : DerivedTuple). y.tuple.at) c.one.view_is) over.0)

-- one more tuple was noted
pub loop-place-preserved : goal.loop-place-preserved
loop-place-preserved g c =
    c.noted-first.ensures ∙ ap (λ (y : DerivedTuple). lesser_if (is_eligible c.args.condition.now c.args.binding.now y.tuple) c.loop-place.first y.tuple.at) c.one.view_is
    ∙ noted_step c.args.condition.now c.args.binding.now c.args.found.now c.loop-place.place c.get-one.result.now c.loop-place.first (slice_get_within c.args.found.now c.loop-place.place c.get-one.result.now c.get-one.ensures.value)
    (sym (get_or_from_slice_get c.args.found.now c.loop-place.place c.get-one.result.now c.get-one.result.now c.get-one.ensures.value)) c.loop-place.invariant
