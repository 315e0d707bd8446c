use Rattle.std.proofs.Common.{arith, sym}
use Rattle.cel_lexer.proofs.Places.{tail-is}
use Rattle.cel_lexer.proofs.LiteralLemmas.{byte-at, closed-at, doubled-at, open-at}
use Rattle.cel_lexer.proofs.literals.literal_rest.Goals as goal

pub returns-then-text-len-eq10-clause-value : goal.returns-then-text-len-eq10-clause-value
returns-then-text-len-eq10-clause-value c =
    sym (open-at c.args.text.now c.loop-len.len c.loop-len-test.true c.if-text-len-eq10.true c.loop-len.invariant.whole)

pub loop-len-preserved-then-text-len-ne39 : goal.loop-len-preserved-then-text-len-ne39
loop-len-preserved-then-text-len-ne39 c = record {
  in_text = omega (arith, c.loop-len-test.true);
  whole = byte-at c.args.text.now c.loop-len.len c.loop-len-test.true c.if-text-len-eq10.false c.if-text-len-ne39.true c.loop-len.invariant.whole;
}

pub loop-len-preserved : goal.loop-len-preserved
loop-len-preserved c =
    let same = rw tail-is at c.if-begins_with.ensures in
    let next = doubled-at c.args.text.now c.loop-len.len c.loop-len-test.true c.if-text-len-ne39.false (sym same) c.loop-len.invariant.whole in
    record { in_text = next.0; whole = next.1 }

pub returns-else-begins_with-clause-value : goal.returns-else-begins_with-clause-value
returns-else-begins_with-clause-value c =
    let other = rw tail-is at c.if-begins_with.ensures in
    sym (closed-at c.args.text.now c.loop-len.len c.loop-len-test.true c.if-text-len-ne39.false (sym other) c.loop-len.invariant.whole)
