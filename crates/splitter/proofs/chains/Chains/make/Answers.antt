use Rattle.std.proofs.Common.{◌∙◌, arith}
use Rattle.splitter.proofs.LeadLemmas.{all_made, leads_start, leads_next, query_apart, query_room, query_typed}
use Rattle.splitter.proofs.chains.Chains.make.Goals as goal

-- nothing is there at first
pub loop-place-init : goal.loop-place-init
loop-place-init c =
    leads_start c.args.declared c.args.expressions.now c.args.places.now c.args.kinds c.requires.given c.requires.typed c.requires.wide c.new-namer.result c.new-lines.result c.new.result c.in_ok-streams_at.field-0 (c.new-namer.ensures ∙ c.len.ensures) c.new-lines.ensures c.new.ensures c.in_ok-streams_at.ensures

-- the next query reads streams before its own, and hidden streams come behind all others
pub add_query-requires-clause-apart : goal.add_query-requires-clause-apart
add_query-requires-clause-apart c =
    query_apart c.args.declared c.args.expressions.now c.args.places.now c.args.kinds c.requires.given c.loop-place.place c.loop-place.namer c.loop-place.lines c.loop-place.layout c.loop-place.invariant (omega (arith, c.len-place-end.ensures, c.loop-place-test.true)) c.get.result.now c.get.ensures

-- numbers are left for its hidden streams
pub add_query-requires-clause-room : goal.add_query-requires-clause-room
add_query-requires-clause-room c =
    query_room c.args.declared c.args.expressions.now c.args.places.now c.args.kinds c.requires.given c.loop-place.place c.loop-place.namer c.loop-place.lines c.loop-place.layout c.loop-place.invariant (omega (arith, c.len-place-end.ensures, c.loop-place-test.true)) c.get.result.now c.get.ensures
    c.requires.room

-- and its lines are typed
pub add_query-requires-clause-typed : goal.add_query-requires-clause-typed
add_query-requires-clause-typed c =
    query_typed c.args.declared c.args.expressions.now c.args.places.now c.args.kinds c.requires.given c.loop-place.place c.loop-place.namer c.loop-place.lines c.loop-place.layout c.loop-place.invariant (omega (arith, c.len-place-end.ensures, c.loop-place-test.true)) c.get.result.now c.get.ensures

-- so it is there with the others
pub loop-place-preserved : goal.loop-place-preserved
loop-place-preserved c =
    let is = c.in_ok-add_query.ensures in
    leads_next c.args.declared c.args.expressions.now c.args.places.now c.args.kinds c.requires.given c.loop-place.place c.loop-place.namer c.loop-place.lines c.loop-place.layout c.loop-place.invariant (omega (arith, c.len-place-end.ensures, c.loop-place-test.true)) c.get.result.now c.get.ensures
    c.add_query.new.lines c.add_query.new.layout c.add_query.new.namer is.lines is.order is.outs is.kinds is.next

-- and in the end all are
pub returns : goal.returns
returns c =
    all_made c.args.declared c.args.expressions.now c.args.places.now c.args.kinds c.requires.given c.loop-place.place c.loop-place.namer c.loop-place.lines c.loop-place.layout c.loop-place.invariant (omega (arith, c.len-place-end.ensures, c.loop-place-test.false)) c.requires.typed c.requires.placed
