use Rattle.std.proofs.Common.{◌<◌, length, arith}
use Rattle.reference.proofs.PublishingLemmas.{indexed_suits, left_after_index}
use Rattle.reference.proofs.publishing.publish.Goals as goal

-- the query at the next place may be evaluated
pub publish_one-requires : goal.publish_one-requires
publish_one-requires g c =
    let below : c.loop-place.place-index < length c.args.order.now = omega arith in
    indexed_suits c.args.queries.now c.args.streams.now c.args.order.now c.loop-place.streams c.loop-place.place-index c.index-queries-place.result
    c.requires.places below c.index-queries-place.is c.loop-place.invariant

-- once it is published, the rest is left
pub loop-place-preserved : goal.loop-place-preserved
loop-place-preserved g c =
    let below : c.loop-place.place-index < length c.args.order.now = omega arith in
    left_after_index c.args.queries.now c.args.streams.now c.args.order.now c.loop-place.streams c.publish_one.new.streams c.loop-place.place-index c.index-queries-place.result
    c.requires.places below c.index-queries-place.is c.loop-place.invariant c.in_ok-publish_one.ensures.ok
