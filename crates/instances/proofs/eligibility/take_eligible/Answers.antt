use Rattle.std.proofs.Common.{◌∙◌, IsTrue, Some, ap, sym, not, arith}
use Rattle.semantics.specs.Nexts.{is_eligible}
use Rattle.scalar_expr.specs.Fits.{AllFit}
use Rattle.instances.specs.Keys.{key_matches, key_of_places}
use Rattle.inst_chain.proofs.Walks.{All_behind, All_first, one_fewer, rest_is, steps_on, takes_out}
use Rattle.instances.proofs.eligibility.take_eligible.Goals as goal

pub can_follow_found-requires-clause-fits : goal.can_follow_found-requires-clause-fits
can_follow_found-requires-clause-fits g c = All_first (λ instance. AllFit c.args.choose.now c.args.event.now (Some instance.tuple)) _ c.in-Some.instance.now c.in-Some.ensures c.loop-instance.invariant.3

pub can_follow_found-requires-clause-found : goal.can_follow_found-requires-clause-found
can_follow_found-requires-clause-found g c = All_first (λ instance. IsTrue (key_matches (key_of_places c.args.key) c.args.event.now instance.tuple)) _ c.in-Some.instance.now c.in-Some.ensures c.loop-instance.invariant.4

pub loop-instance-preserved-then-can_follow_found : goal.loop-instance-preserved-then-can_follow_found
loop-instance-preserved-then-can_follow_found g c = (
  c.unlink.ensures.same_reference ∙ c.loop-instance.invariant.0,
  takes_out (λ instance. not (is_eligible c.args.choose.now instance.tuple c.args.event.now)) _ _ _ _ _ c.in-Some.instance.now c.unlink.result c.in-Some.ensures
      (ap not (sym c.can_follow_found.ensures.value ∙ c.if-can_follow_found.true)) c.unlink.ensures.taken c.unlink.ensures.here c.unlink.ensures.passed c.loop-instance.invariant.1,
  let less = one_fewer _ _ c.in-Some.instance.now c.in-Some.ensures (rest_is _ _ c.in-Some.instance.now c.unlink.result c.in-Some.ensures c.unlink.ensures.taken c.unlink.ensures.here) in
      omega (arith, less, c.can_follow_found.ensures.ticks, c.loop-instance.invariant.2),
  All_behind (λ instance. AllFit c.args.choose.now c.args.event.now (Some instance.tuple)) _ _ (rest_is _ _ c.in-Some.instance.now c.unlink.result c.in-Some.ensures c.unlink.ensures.taken c.unlink.ensures.here) c.loop-instance.invariant.3,
  All_behind (λ instance. IsTrue (key_matches (key_of_places c.args.key) c.args.event.now instance.tuple)) _ _ (rest_is _ _ c.in-Some.instance.now c.unlink.result c.in-Some.ensures c.unlink.ensures.taken c.unlink.ensures.here) c.loop-instance.invariant.4,
)

pub loop-instance-preserved : goal.loop-instance-preserved
loop-instance-preserved g c = (
  c.step.ensures.same_reference ∙ c.loop-instance.invariant.0,
  steps_on (λ instance. not (is_eligible c.args.choose.now instance.tuple c.args.event.now)) _ _ _ _ _ c.in-Some.instance.now c.in-Some.ensures
      (ap not (sym c.can_follow_found.ensures.value ∙ c.if-can_follow_found.false)) c.step.ensures.here c.step.ensures.passed c.loop-instance.invariant.1,
  let less = one_fewer _ _ c.in-Some.instance.now c.in-Some.ensures c.step.ensures.here in omega (arith, less, c.can_follow_found.ensures.ticks, c.loop-instance.invariant.2),
  All_behind (λ instance. AllFit c.args.choose.now c.args.event.now (Some instance.tuple)) _ _ c.step.ensures.here c.loop-instance.invariant.3,
  All_behind (λ instance. IsTrue (key_matches (key_of_places c.args.key) c.args.event.now instance.tuple)) _ _ c.step.ensures.here c.loop-instance.invariant.4,
)
