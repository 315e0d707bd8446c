use Rattle.std.proofs.Common.{◌∙◌, Some}
use Rattle.std.proofs.lemmas.Bool.{le-ltb, lt-ltb}
use Rattle.semantics.specs.Births.{is_after}
use Rattle.inst_chain.proofs.Walks.{steps_on, takes_out}
use Rattle.instances.proofs.births.keep_after.Goals as goal

pub loop-instance-preserved-then-birth-instance : goal.loop-instance-preserved-then-birth-instance
loop-instance-preserved-then-birth-instance c = (
  c.step.ensures.same_reference ∙ c.loop-instance.invariant.0,
  steps_on (λ instance. is_after (Some c.args.birth) instance.first) _ _ _ _ _ c.in-Some.instance.now c.in-Some.ensures
      (lt-ltb c.args.birth c.in-Some.instance.now.first c.if-birth-instance.true) c.step.ensures.here c.step.ensures.passed c.loop-instance.invariant.1,
)

pub loop-instance-preserved-else-birth-instance : goal.loop-instance-preserved-else-birth-instance
loop-instance-preserved-else-birth-instance c = (
  c.unlink.ensures.same_reference ∙ c.loop-instance.invariant.0,
  takes_out (λ instance. is_after (Some c.args.birth) instance.first) _ _ _ _ _ c.in-Some.instance.now c.unlink.result c.in-Some.ensures
      (le-ltb c.args.birth c.in-Some.instance.now.first c.if-birth-instance.false) c.unlink.ensures.taken c.unlink.ensures.here c.unlink.ensures.passed c.loop-instance.invariant.1,
)
