use Rattle.std.proofs.Common.{◌+◌, ◌-◌, ◌/◌, ℕ, sym, arith}
use Rattle.catalogue.specs.declared.numbering.Published.{Published}
use Rattle.catalogue.proofs.HalvingLemmas.{above, below, found_there, none_behind, none_there}
use Rattle.catalogue.proofs.dropping.publisher.Goals.{else-first-len-via-then-first-len+else-get-stream-2, else-first-len-via-else-first-len}
use Rattle.catalogue.proofs.dropping.publisher.Goals as goal

abbrev stream_of : Published → ℕ
stream_of query = query.stream

-- the stream is found behind the middle, if at all
pub loop-first-preserved-then-get-stream : goal.loop-first-preserved-then-get-stream
loop-first-preserved-then-get-stream c =
    let first : ℕ = c.loop-first.first in
    let end : ℕ = c.loop-first.end in
    below stream_of c.args.published.now c.requires c.args.stream first end c.loop-first.invariant (first + (end - first) / 2) c.get.result.now (omega (arith, c.loop-first.invariant.up)) (omega (arith, c.loop-first-test.true)) c.get.ensures c.if-get-stream.true

-- or up to it
pub loop-first-preserved : goal.loop-first-preserved
loop-first-preserved c =
    let first : ℕ = c.loop-first.first in
    let end : ℕ = c.loop-first.end in
    above stream_of c.args.published.now c.requires c.args.stream first end c.loop-first.invariant (first + (end - first) / 2) c.get.result.now (omega (arith, c.loop-first.invariant.up)) (omega (arith, c.loop-first-test.true)) c.get.ensures
    (omega (arith, c.if-get-stream.false))

-- it is where both places meet
pub returns-then-get-stream-2 : goal.returns-then-get-stream-2
returns-then-get-stream-2 c =
    sym (found_there stream_of c.args.published.now c.requires c.args.stream c.loop-first.first c.loop-first.end c.loop-first.invariant (omega (arith, c.loop-first-test.false)) c.get-then-first-len.result.now c.get-then-first-len.ensures c.if-get-stream-2.true (omega (arith, c.if-first-len.true, c.len.ensures)))

-- or nowhere
pub returns-else-first-len : goal.returns-else-first-len
returns-else-first-len c = elim c.else-first-len.branch [
  | else-first-len-via-then-first-len+else-get-stream-2 w ↦
      sym (none_there stream_of c.args.published.now c.requires c.args.stream c.loop-first.first c.loop-first.end c.loop-first.invariant (omega (arith, c.loop-first-test.false)) w.get-then-first-len.result.now w.get-then-first-len.ensures w.if-get-stream-2.false (omega (arith, w.if-first-len.true, c.len.ensures)))
  | else-first-len-via-else-first-len w ↦
      sym (none_behind stream_of c.args.published.now c.requires c.args.stream c.loop-first.first c.loop-first.end c.loop-first.invariant (omega (arith, c.loop-first-test.false)) (omega (arith, w.if-first-len.false, c.len.ensures)))
]
