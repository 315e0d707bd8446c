use Rattle.splitter.proofs.RangeLemmas.{range_end, range_more}
use Rattle.splitter.proofs.chains.add_order.Goals as goal

-- one number more
pub loop-number-preserved : goal.loop-number-preserved
loop-number-preserved c =
    range_more c.args.order.now c.loop-number.order c.add.new.self c.args.first c.loop-number.number c.loop-number.auto.number c.loop-number.invariant c.in_default.ensures.ok

-- and the query's own stream behind them
pub returns-clause-ok : goal.returns-clause-ok
returns-clause-ok c =
    range_end c.args.order.now c.loop-number.order c.add-2.new.self c.args.first c.loop-number.number c.args.next c.args.stream (c.loop-number.auto.number-end c.requires) c.loop-number-test.false c.loop-number.invariant c.in_default-add.ensures.ok
