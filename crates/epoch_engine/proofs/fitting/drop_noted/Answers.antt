use Rattle.std.proofs.Common.{arith}
use Rattle.epoch_engine.proofs.FitLemmas.{next_gone}
use Rattle.epoch_engine.proofs.fitting.drop_noted.Goals as goal

-- one number more
pub loop-number-preserved : goal.loop-number-preserved
loop-number-preserved c =
    next_gone c.args.network.now c.args.noted.now c.loop-number.number-index c.args.stores.now c.loop-number.stores c.drop_store.new.stores c.loop-number-test.true (omega arith) c.loop-number.invariant c.drop_store.ensures.left c.drop_store.ensures.others
    c.drop_store.ensures.as_many
