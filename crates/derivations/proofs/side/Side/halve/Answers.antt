use Rattle.std.proofs.Common.{◌≡◌, ◌∙◌, ap, subst, ℕ, ◌+◌, ◌-◌, ◌/◌, ◌≤◌, arith}
use Rattle.derivations.specs.DerivedTuples.{DerivedTuple}
use Rattle.derivations.proofs.SideLemmas.{early_up_to}
use Rattle.derivations.proofs.side.Side.halve.Goals as goal

-- the tuple in the middle is detected by the time, and so all up to it start by then
pub loop-low-preserved-then-at-time : goal.loop-low-preserved-then-at-time
loop-low-preserved-then-at-time c =
    let lower = c.loop-low-test.true in
    let high = c.loop-low.invariant.1 in
    let at_is : c.at.result ≡ c.get.result.now.tuple.at = c.at.ensures.value ∙ ap (λ (y : DerivedTuple). y.tuple.at) c.behind-self.view_is in (
      omega (arith, lower),
      high,
      early_up_to c.args.self.now (c.loop-low.low + (c.loop-low.high - c.loop-low.low) / 2) c.args.time c.get.result.now c.requires c.get.ensures.sound c.get.ensures.value (omega (arith, lower, high))
          (subst (λ (n : ℕ). n ≤ c.args.time) at_is c.if-at-time.true),
    )
