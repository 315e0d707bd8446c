use Rattle.epoch_draft.proofs.OldestLemmas.{next_is}
use Rattle.epoch_draft.proofs.watching.oldest_start.Goals as goal

-- the next one starts no sooner than the lesser of both
pub loop-instance-preserved : goal.loop-instance-preserved
loop-instance-preserved c =
    next_is c.in-Some.instance.now c.loop-instance.look c.next-in-loop-instance.new.self c.args.beads.now c.loop-instance.oldest c.from.result c.min-oldest.result c.in-Some.ensures.rest c.from.ensures.value c.min-oldest.ensures c.loop-instance.invariant
