use Rattle.std.proofs.Common.{arith}
use Rattle.stream_readers.specs.Targets.{way_of}
use Rattle.stream_readers.specs.declared.target.Target.TheVariants.{Edge}
use Rattle.epoch_laws.specs.Instances.{begins}
use Rattle.epoch_draft.proofs.DraftLemmas.{draft_of}
use Rattle.epoch_draft.proofs.MeetLemmas.{targets_more}
use Rattle.epoch_draft.proofs.WorkLemmas.{flat_more, flat_part}
use Rattle.epoch_draft.proofs.meeting.go_each.Goals as goal

pub go-requires-clause-draft : goal.go-requires-clause-draft
go-requires-clause-draft g c = draft_of c.args.network.now c.args.draft.now c.loop-target.draft c.requires.draft c.loop-target.invariant.grows.fits

-- one target more
pub loop-target-preserved : goal.loop-target-preserved
loop-target-preserved g c =
    let net = c.args.network.now in
    let targets = c.args.targets.now in
    let i = c.loop-target.target-index in
    let lt = c.loop-target-test.true in
    let more = flat_more (way_of net) net targets i (Edge 0) lt in
    let was = c.loop-target.invariant.ticks in
    let one = c.in_ok-last.ensures.ticks in
    record {
      grows = targets_more (way_of net) net targets i (Edge 0) (begins c.args.tuple.now) c.args.draft.now c.loop-target.draft c.go.new.draft lt c.loop-target.invariant.grows c.in_ok-last.ensures.grows;
      last = c.in_ok-last.ensures.last;
      ticks = omega (arith, more, was, one);
    }

-- want of memory comes after some of the tests
pub returns-in_err-last-clause-ticks : goal.returns-in_err-last-clause-ticks
returns-in_err-last-clause-ticks g c =
    let net = c.args.network.now in
    let part = flat_part (way_of net) net c.args.targets.now c.loop-target.target-index (Edge 0) c.loop-target-test.true in
    let was = c.loop-target.invariant.ticks in
    let one = c.go.ensures.ticks in omega (arith, part, was, one)
