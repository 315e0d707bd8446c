use Rattle.std.proofs.Common.{◌≡◌, ◌+◌, ℕ, length, subst, arith}
use Rattle.epoch_draft.proofs.PurgeLemmas.{ArePurgedBelow, all_purged, purged_next}
use Rattle.epoch_draft.proofs.purging.purge_all.Goals as goal

-- one state more
pub loop-number-preserved : goal.loop-number-preserved
loop-number-preserved c = purged_next c.args.network.now c.loop-number.number (c.args.time + 1) c.args.stores.now c.loop-number.stores c.purge_at.new.stores c.loop-number.invariant c.purge_at.ensures

-- the states are done
pub returns : goal.returns
returns c = all_purged c.args.network.now (c.args.time + 1) c.args.stores.now c.loop-number.stores (subst (λ (n : ℕ). ArePurgedBelow c.args.network.now n (c.args.time + 1) c.args.stores.now c.loop-number.stores) all c.loop-number.invariant)
  where
    all : c.loop-number.number ≡ length c.args.network.now
    all = omega (arith, c.loop-number-test.false, c.loop-number.auto.number-end, c.places-number-end.ensures.value)
