use Rattle.std.proofs.Common.{◌∙◌, sym, subst, ◌+◌, ◌≤◌, arith}
use Rattle.std.proofs.lemmas.List.Sums.{sum_by_more, sum_by_more_le}
use Rattle.epoch_draft.specs.Tests.{tuple_work}
use Rattle.std.proofs.lemmas.List.Elements.{All-get_or}
use Rattle.event_types.specs.Tuple.{TupleView}
use Rattle.epoch_draft.specs.Drafts.{Grows}
use Rattle.epoch_draft.specs.Held.{held}
use Rattle.epoch_draft.specs.Meeting.{Lists, moves_of}
use Rattle.epoch_draft.specs.Suits.{TupleSuits}
use Rattle.epoch_draft.proofs.DraftLemmas.{draft_of}
use Rattle.epoch_draft.proofs.MeetLemmas.{moves_more}
use Rattle.epoch_draft.proofs.PairLemmas.{lists_more}
use Rattle.epoch_draft.proofs.meeting.meet_stream.Goals as goal

pub meet_tuple-requires-clause-suits : goal.meet_tuple-requires-clause-suits
meet_tuple-requires-clause-suits g c =
    let suits = TupleSuits c.args.stored.now.network.now (held c.args.stored.now.stores.now) c.args.stream in
    let t = c.index-tuples-place.result in
    subst suits (sym c.index-tuples-place.is) (All-get_or suits c.args.tuples.now c.loop-place.place t c.loop-place-test.true c.requires.suits)

pub meet_tuple-requires-clause-draft : goal.meet_tuple-requires-clause-draft
meet_tuple-requires-clause-draft g c = draft_of c.args.stored.now.network.now c.args.drawing.now.draft c.loop-place.drawing.draft c.requires.draft c.loop-place.invariant.grows.fits

-- one tuple more
pub loop-place-preserved : goal.loop-place-preserved
loop-place-preserved g c =
    let net = c.args.stored.now.network.now in
    let stores = held c.args.stored.now.stores.now in
    let s = c.args.stream in
    let rows = c.args.tuples.now in
    let i = c.loop-place.place in
    let t = c.index-tuples-place.result in
    record {
      grows =
          moves_more (moves_of net stores s) net rows i t c.args.drawing.now.draft c.loop-place.drawing.draft c.meet_tuple.new.drawing.draft c.loop-place-test.true c.loop-place.invariant.grows
          (subst (λ (r : TupleView). Grows net (moves_of net stores s r) c.loop-place.drawing.draft c.meet_tuple.new.drawing.draft) c.index-tuples-place.is c.in_ok-meet_tuple.ensures.grows);
      lists =
          lists_more net stores s rows i t c.args.drawing.now.pairs c.loop-place.drawing.pairs c.meet_tuple.new.drawing.pairs c.loop-place-test.true c.loop-place.invariant.lists
          (subst (λ (r : TupleView). Lists net stores s i r c.loop-place.drawing.pairs c.meet_tuple.new.drawing.pairs) c.index-tuples-place.is c.in_ok-meet_tuple.ensures.lists);
      agenda = c.meet_tuple.ensures.agenda ∙ c.loop-place.invariant.agenda;
      ticks =
          let was = c.loop-place.invariant.ticks in
          let one = subst (λ (r : TupleView). c.meet_tuple.new.steps ≤ c.loop-place.steps + tuple_work net stores s r) c.index-tuples-place.is c.in_ok-meet_tuple.ensures.ticks in
          let more = sum_by_more (tuple_work net stores s) rows i t c.loop-place-test.true in omega (arith, was, one, more);
    }

-- want of memory comes after some of the tests
pub returns-in_err-meet_tuple-clause-ticks : goal.returns-in_err-meet_tuple-clause-ticks
returns-in_err-meet_tuple-clause-ticks g c =
    let work = tuple_work c.args.stored.now.network.now (held c.args.stored.now.stores.now) c.args.stream in
    let t = c.index-tuples-place.result in
    let part = sum_by_more_le work c.args.tuples.now c.loop-place.place t c.loop-place-test.true in
    let was = c.loop-place.invariant.ticks in
    let one = subst (λ (r : TupleView). c.meet_tuple.new.steps ≤ c.loop-place.steps + work r) c.index-tuples-place.is c.meet_tuple.ensures.ticks in omega (arith, part, was, one)
