use Rattle.std.proofs.Common.{◌∙◌, ◌+◌, ◌≤◌, ap, sym}
use Rattle.std.proofs.lemmas.Bool.{le-leb, lt-leb}
use Rattle.std.proofs.lemmas.List.Elements.{All-same, All-weaker}
use Rattle.instances.specs.Alive.{is_alive}
use Rattle.inst_chain.proofs.Walks.{All_passed, steps_on, takes_out}
use Rattle.instances.specs.Bounds.{started}
use Rattle.instances.proofs.BoundLemmas.{least_of_left, least_of_right, started_is}
use Rattle.instances.proofs.bounds.keep_alive.Goals as goal

pub loop-instance-preserved-then-earliest-from : goal.loop-instance-preserved-then-earliest-from
loop-instance-preserved-then-earliest-from c = (
  c.step.ensures.same_reference ∙ c.loop-instance.invariant.0,
  steps_on (λ instance. is_alive (c.args.now + 1) c.args.condition.now instance.tuple) _ _ _ _ _ c.in-Some.instance.now c.in-Some.ensures
      (sym (started_is (c.args.now + 1) c.args.condition.now c.in-Some.instance.now.tuple) ∙ ap (λ from. is_alive (c.args.now + 1) c.args.condition.now (started from)) (sym c.from-from.ensures.value) ∙ c.earliest_alive-earliest.ensures c.from-from.result ∙ le-leb c.earliest_alive-earliest.result c.from-from.result c.if-earliest-from.true)
      c.step.ensures.here c.step.ensures.passed c.loop-instance.invariant.1,
  All_passed (λ instance. c.min-oldest.result ≤ instance.tuple.from) _ _ _ c.in-Some.instance.now c.in-Some.ensures c.step.ensures.passed
      (least_of_right c.min-oldest.result c.loop-instance.oldest c.from-from.result c.in-Some.instance.now.tuple.from c.min-oldest.ensures c.from-from.ensures.value)
      (All-weaker (λ instance. c.loop-instance.oldest ≤ instance.tuple.from) (λ instance. c.min-oldest.result ≤ instance.tuple.from) (λ instance le. least_of_left c.min-oldest.result c.loop-instance.oldest c.from-from.result instance.tuple.from c.min-oldest.ensures le) _ c.loop-instance.invariant.2),
)

pub loop-instance-preserved-else-earliest-from : goal.loop-instance-preserved-else-earliest-from
loop-instance-preserved-else-earliest-from c = (
  c.unlink.ensures.same_reference ∙ c.loop-instance.invariant.0,
  takes_out (λ instance. is_alive (c.args.now + 1) c.args.condition.now instance.tuple) _ _ _ _ _ c.in-Some.instance.now c.unlink.result c.in-Some.ensures
      (sym (started_is (c.args.now + 1) c.args.condition.now c.in-Some.instance.now.tuple) ∙ ap (λ from. is_alive (c.args.now + 1) c.args.condition.now (started from)) (sym c.from-from.ensures.value) ∙ c.earliest_alive-earliest.ensures c.from-from.result ∙ lt-leb c.earliest_alive-earliest.result c.from-from.result c.if-earliest-from.false)
      c.unlink.ensures.taken c.unlink.ensures.here c.unlink.ensures.passed c.loop-instance.invariant.1,
  All-same (λ instance. c.loop-instance.oldest ≤ instance.tuple.from) _ _ c.unlink.ensures.passed c.loop-instance.invariant.2,
)
