use Rattle.std.proofs.Common.{◌<◌, length, arith}
use Rattle.derivations.proofs.ReadLemmas.{heard_step}
use Rattle.derivations.proofs.reading.heard_on.Goals as goal

-- one more event was heard, or passed over
pub loop-index-preserved : goal.loop-index-preserved
loop-index-preserved c =
    let below : c.loop-index.index < length c.args.history.now = omega arith in
    heard_step c.args.history.now c.loop-index.index c.args.stream c.index-history-index.result c.loop-index.found c.add_heard.new.out below c.index-history-index.is c.loop-index.invariant c.in_ok-add_heard.ensures
