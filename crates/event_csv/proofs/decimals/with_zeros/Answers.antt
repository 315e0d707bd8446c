use Rattle.std.proofs.Common.{arith}
use Rattle.event_csv.proofs.DecimalFacts.{zero-more, zeros-past}
use Rattle.event_csv.proofs.decimals.with_zeros.Goals as goal

pub returns-then-tenth-found : goal.returns-then-tenth-found
returns-then-tenth-found c =
    zeros-past c.args.most c.args.number c.loop-zero.zero c.args.zeros (omega (arith, c.loop-zero.invariant.value, c.if-tenth-found.true)) c.loop-zero-test.true

pub loop-zero-preserved : goal.loop-zero-preserved
loop-zero-preserved c = record {
  value = omega (arith, c.loop-zero.invariant.value, zero-more c.args.number c.loop-zero.zero);
  fits = omega (arith, c.if-tenth-found.false);
}
