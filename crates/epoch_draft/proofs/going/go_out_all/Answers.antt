use Rattle.std.proofs.Common.{◌+◌, ◌≤◌, ◌∷◌, [], List, subst, arith}
use Rattle.automaton.specs.declared.network.End.{End}
use Rattle.automaton.specs.declared.step.Stage.{Stage}
use Rattle.stream_readers.specs.Ways.{Out}
use Rattle.epoch_draft.specs.Drafts.{Grows}
use Rattle.epoch_draft.specs.Moves.{moves_on}
use Rattle.epoch_draft.specs.Work.{keeps}
use Rattle.epoch_draft.proofs.GoingLemmas.{go_more}
use Rattle.epoch_draft.proofs.WorkLemmas.{ways_more, ways_part}
use Rattle.epoch_draft.proofs.going.go_out_all.Goals as goal

-- one end more
pub loop-end-preserved : goal.loop-end-preserved
loop-end-preserved g c =
    let net = c.args.network.now in
    let end = c.end-item.result in
    let ends = c.args.ends.now in
    let i = c.loop-end.end-index in
    let lt = c.loop-end-test.true in
    let more = ways_more Out net ends i end lt in
    let was = c.loop-end.invariant.ticks in
    let one = subst (λ (e : End). c.go_out.new.steps ≤ c.loop-end.steps + keeps e.step) c.end-item.is (subst (λ (step : List Stage). c.go_out.new.steps ≤ c.loop-end.steps + keeps step) c.as_slice.ensures c.in_ok-last.ensures.ticks) in
    record {
      grows =
          go_more Out net ends i end c.args.instance.now c.args.draft.now c.loop-end.draft c.go_out.new.draft lt c.loop-end.invariant.grows
          (subst (λ (e : End). Grows net (moves_on (Out e ∷ []) c.args.instance.now) c.loop-end.draft c.go_out.new.draft) c.end-item.is (c.in_ok-last.ensures.grows net c.loop-end.invariant.grows.fits.beads));
      last = c.in_ok-last.ensures.last;
      ticks = omega (arith, more, was, one);
    }

-- want of memory comes after some of the tests
pub returns-in_err-last-clause-ticks : goal.returns-in_err-last-clause-ticks
returns-in_err-last-clause-ticks g c =
    let end = c.end-item.result in
    let part = ways_part Out c.args.network.now c.args.ends.now c.loop-end.end-index end c.loop-end-test.true in
    let was = c.loop-end.invariant.ticks in
    let one = subst (λ (e : End). c.go_out.new.steps ≤ c.loop-end.steps + keeps e.step) c.end-item.is (subst (λ (step : List Stage). c.go_out.new.steps ≤ c.loop-end.steps + keeps step) c.as_slice.ensures c.go_out.ensures.ticks) in omega (arith, part, was, one)
