use Rattle.std.proofs.Common.{◌+◌, ◌-◌, ◌/◌, ℕ, arith}
use Rattle.work_order.proofs.TurnsLemmas.{rank_behind, rank_here, rank_up_to}
use Rattle.work_order.proofs.turns.find.Goals as goal

-- the guess is right
pub returns-then-get-own : goal.returns-then-get-own
returns-then-get-own c = rank_here c.args.turns.now c.requires.rise c.args.own c.requires.there c.args.guess c.get.result.now c.get.ensures c.if-get-own.true

-- the turn stands behind the middle
pub loop-first-preserved-then-get-own-2 : goal.loop-first-preserved-then-get-own-2
loop-first-preserved-then-get-own-2 c =
    let middle : ℕ = c.loop-first.first + (c.loop-first.end - c.loop-first.first) / 2 in
    let behind = rank_behind c.args.turns.now c.requires.rise c.args.own c.requires.there middle c.get-in-loop-first.result.now c.get-in-loop-first.ensures c.if-get-own-2.true in
    record { low = omega (arith, behind); high = c.loop-first.invariant.high; within = c.loop-first.invariant.within }

-- or up to it
pub loop-first-preserved : goal.loop-first-preserved
loop-first-preserved c =
    let middle : ℕ = c.loop-first.first + (c.loop-first.end - c.loop-first.first) / 2 in
    record {
      low = c.loop-first.invariant.low;
      high = rank_up_to c.args.turns.now c.requires.rise c.args.own c.requires.there middle c.get-in-loop-first.result.now c.get-in-loop-first.ensures c.if-get-own-2.false;
      within = omega (arith, c.loop-first-test.true, c.loop-first.invariant.within);
    }
