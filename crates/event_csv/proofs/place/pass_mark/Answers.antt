use Rattle.std.proofs.Common.{arith}
use Rattle.std.proofs.lemmas.List.{take_rest}
use Rattle.event_csv.proofs.PlaceFacts.{IsPlace-marked, feeds-marked, gives-marked}
use Rattle.event_csv.proofs.place.pass_mark.Goals as goal

pub returns-clause-place : goal.returns-clause-place
returns-clause-place c =
    rw c.max-place.ensures (IsPlace-marked c.args.bytes.now c.args.place.now c.mark_len.result c.requires (omega (arith, c.mark_len.ensures.within)))

pub returns-clause-given : goal.returns-clause-given
returns-clause-given c =
    let mark = rw (take_rest c.args.bytes.now c.args.place.now.start) at c.mark_len.ensures.mark in
    gives-marked c.args.bytes.now c.args.place.now c.mark_len.result c.if-place.false (omega arith) mark

pub returns-clause-feeds : goal.returns-clause-feeds
returns-clause-feeds c =
    let feeds = rw (take_rest c.args.bytes.now c.args.place.now.start) at c.mark_len.ensures.feeds in
    feeds-marked c.args.bytes.now c.args.place.now c.mark_len.result feeds
