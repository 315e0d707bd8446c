use Rattle.std.proofs.Common.{◌≡◌, ◌∙◌, sym, subst, ℕ, ◌+◌, ◌<◌, ◌≤◌, [], List, length, get_or, take, arith, ap, refl}
use Rattle.std.specs.List.{All}
use Rattle.std.proofs.lemmas.List.Elements.{All-get_or, All-nil}
use Rattle.std.proofs.lemmas.Option.{get_or_from_slice_get}
use Rattle.event_types.specs.Tuple.{TupleView}
use Rattle.epoch_draft.specs.Deriving.{opened_of}
use Rattle.epoch_draft.specs.Drafts.{DraftFits, Grows}
use Rattle.epoch_draft.specs.Drawn.{Drawn, Paired}
use Rattle.epoch_draft.specs.Held.{held}
use Rattle.epoch_draft.specs.Meeting.{ListsAll, moves_of_all}
use Rattle.std.proofs.lemmas.List.Sums.{sum_by_more, sum_by_more_le}
use Rattle.std.specs.Prelude.{Contains, sum_by}
use Rattle.semantics.specs.Denotation.{streams_of}
use Rattle.epoch_draft.specs.Suits.{TupleSuits}
use Rattle.epoch_draft.specs.Tests.{stream_work}
use Rattle.epoch_draft.proofs.DeriveLemmas.{drawn_of, opened_drawn, opened_more, paired_none, rows_suit}
use Rattle.epoch_draft.proofs.DrawnLemmas.{drawn_starts}
use Rattle.epoch_draft.proofs.DueLemmas.{due_met}
use Rattle.epoch_draft.proofs.Lists.{taken_all}
use Rattle.epoch_draft.proofs.StoreLemmas.{typed_has}
use Rattle.epoch_draft.proofs.making.meet_opened.Goals as goal
use Rattle.epoch_draft.specs.Takes.{take_work, takes_work}
use Rattle.epoch_draft.specs.EpochWork.{heard_tests}
use Rattle.epoch_draft.proofs.EpochLemmas.{heard_less}
use Rattle.epoch_draft.proofs.TakeLemmas.{takes_grow}

pub loop-stream-init : goal.loop-stream-init
loop-stream-init g c = record {
  fits = c.requires.still.fits;
  drawn = drawn_starts c.args.stored.now.network.now (held c.args.stored.now.stores.now) c.args.drawing.now.draft c.requires.still.none_made c.requires.still.no_beads;
  paired = paired_none c.args.stored.now.network.now (held c.args.stored.now.stores.now) c.args.drawing.now.pairs c.requires.still.no_pairs;
  takes = let none = ap (takes_work c.args.stored.now.network.now (streams_of c.args.opened.now) (held c.args.stored.now.stores.now)) c.requires.still.no_pairs in omega (arith, none);
  due = subst (All (Contains c.args.stored.now.layout.now.order)) (sym c.requires.still.none_due) (All-nil (Contains c.args.stored.now.layout.now.order));
  agenda = refl;
  ticks = omega arith;
}

pub meet_read-requires-clause-stored : goal.meet_read-requires-clause-stored
meet_read-requires-clause-stored g c = record {
  network = c.requires.can_draw.network;
  readers = c.requires.can_read.readers;
  stores = typed_has c.args.stored.now.network.now c.args.stored.now.layout.now.kinds c.args.stored.now.stores.now c.requires.can_draw.typed;
  led = c.requires.can_read.led;
}

pub meet_read-requires-clause-draft : goal.meet_read-requires-clause-draft
meet_read-requires-clause-draft g c = drawn_of c.args.stored.now.network.now c.args.stored.now.layout.now c.args.stored.now.stores.now c.args.opened.now c.loop-stream.drawing.draft c.requires.can_draw c.loop-stream.invariant.fits

pub meet_read-requires-clause-suits : goal.meet_read-requires-clause-suits
meet_read-requires-clause-suits g c =
    let can = c.requires.can_draw in
    let net = c.args.stored.now.network.now in
    let stores = c.args.stored.now.stores.now in
    let opened = c.args.opened.now in
    let s = get_or c.args.touched.now c.loop-stream.stream-index 0 in
    let below : s < length opened = All-get_or (λ s. s < length opened) c.args.touched.now c.loop-stream.stream-index 0 c.loop-stream-test.true c.requires.touched.below in
    let is : get_or opened s [] ≡ c.as_slice.result.now = get_or_from_slice_get opened s c.get.result.now [] c.get.ensures ∙ sym c.as_slice.ensures in
    subst (All (TupleSuits net (held stores) s)) is
    (rows_suit net can.network c.args.stored.now.layout.now.kinds stores can.typed s (omega (arith, below, can.as_many)) (get_or opened s []) (can.kinds s))

-- one stream more is met
pub loop-stream-preserved : goal.loop-stream-preserved
loop-stream-preserved g c =
    let net = c.args.stored.now.network.now in
    let stores = held c.args.stored.now.stores.now in
    let opened = c.args.opened.now in
    let touched = c.args.touched.now in
    let i = c.loop-stream.stream-index in
    let s = get_or touched i 0 in
    let old = c.loop-stream.drawing.draft in
    let new = c.meet_read.new.drawing.draft in
    let is : c.as_slice.result.now ≡ get_or opened s [] = c.as_slice.ensures ∙ sym (get_or_from_slice_get opened s c.get.result.now [] c.get.ensures) in
    let grows : Grows net (moves_of_all net stores s (get_or opened s [])) old new = subst (λ (ts : List TupleView). Grows net (moves_of_all net stores s ts) old new) is c.in_ok-meet_read.ensures.grows in
    let lists : ListsAll net stores s (get_or opened s []) c.loop-stream.drawing.pairs c.meet_read.new.drawing.pairs = subst (λ (ts : List TupleView). ListsAll net stores s ts c.loop-stream.drawing.pairs c.meet_read.new.drawing.pairs) is c.in_ok-meet_read.ensures.lists in
    let both =
    opened_more net stores opened touched i old new c.loop-stream.drawing.pairs c.meet_read.new.drawing.pairs c.requires.can_draw.network c.loop-stream-test.true (c.requires.touched.once i c.loop-stream-test.true) c.loop-stream.invariant.drawn
    c.loop-stream.invariant.paired grows lists in
    record {
      fits = subst (λ (m : ℕ). DraftFits m (length net) new) c.loop-stream.invariant.fits.made grows.fits;
      drawn = both.0;
      paired = both.1;
      due = due_met net c.args.stored.now.layout.now.order c.requires.can_draw.ends stores (opened_of opened (take (i + 1) touched)) old new both.0 grows.newly_due c.loop-stream.invariant.due;
      agenda = c.meet_read.ensures.agenda ∙ c.loop-stream.invariant.agenda;
      takes =
          let was = c.loop-stream.invariant.takes in
          let one = takes_grow net stores (streams_of opened) s (get_or opened s []) c.loop-stream.drawing.pairs c.meet_read.new.drawing.pairs refl lists in
          let more = sum_by_more (λ s. sum_by (take_work net stores s) (get_or opened s [])) touched i 0 c.loop-stream-test.true in omega (arith, was, one, more);
      ticks =
          let was = c.loop-stream.invariant.ticks in
          let one = subst (λ (ts : List TupleView). c.meet_read.new.steps ≤ c.loop-stream.steps + stream_work net stores s ts) is c.in_ok-meet_read.ensures.ticks in
          let more = sum_by_more (λ s. stream_work net stores s (get_or opened s [])) touched i 0 c.loop-stream-test.true in omega (arith, was, one, more);
    }

-- all are
pub returns-clause-drawn : goal.returns-clause-drawn
returns-clause-drawn g c =
    let net = c.args.stored.now.network.now in
    let stores = c.args.stored.now.stores.now in
    let opened = c.args.opened.now in
    let touched = c.args.touched.now in
    let all = taken_all touched c.loop-stream.stream-index c.loop-stream-test.false in
    opened_drawn net c.args.stored.now.layout.now stores opened touched c.loop-stream.drawing.draft c.loop-stream.drawing.pairs c.requires.can_draw c.requires.touched c.loop-stream.invariant.fits
    (subst (λ (xs : List ℕ). Drawn net (held stores) (opened_of opened xs) c.loop-stream.drawing.draft) all c.loop-stream.invariant.drawn)
    (subst (λ (xs : List ℕ). Paired net (held stores) (opened_of opened xs) c.loop-stream.drawing.pairs) all c.loop-stream.invariant.paired)

-- what their pairs take out
pub returns-clause-takes : goal.returns-clause-takes
returns-clause-takes g c =
    let net = c.args.stored.now.network.now in
    let stores = held c.args.stored.now.stores.now in
    let opened = c.args.opened.now in
    let touched = c.args.touched.now in
    let pairs = c.loop-stream.drawing.pairs in
    let work = take_work net stores in
    let was =
    subst (λ (xs : List ℕ). takes_work net (streams_of opened) stores pairs ≤ sum_by (λ s. sum_by (work s) (get_or opened s [])) xs) (taken_all touched c.loop-stream.stream-index c.loop-stream-test.false) c.loop-stream.invariant.takes in
    let most = heard_less work opened touched c.requires.touched in
    let many = ap (λ (n : ℕ). heard_tests work n (streams_of opened)) c.requires.can_draw.as_many in omega (arith, was, most, many)

-- want of memory comes after some of the tests
pub returns-in_err-meet_read-clause-ticks : goal.returns-in_err-meet_read-clause-ticks
returns-in_err-meet_read-clause-ticks g c =
    let net = c.args.stored.now.network.now in
    let stores = held c.args.stored.now.stores.now in
    let opened = c.args.opened.now in
    let touched = c.args.touched.now in
    let i = c.loop-stream.stream-index in
    let s = get_or touched i 0 in
    let is : c.as_slice.result.now ≡ get_or opened s [] = c.as_slice.ensures ∙ sym (get_or_from_slice_get opened s c.get.result.now [] c.get.ensures) in
    let part = sum_by_more_le (λ s. stream_work net stores s (get_or opened s [])) touched i 0 c.loop-stream-test.true in
    let was = c.loop-stream.invariant.ticks in
    let one = subst (λ (ts : List TupleView). c.meet_read.new.steps ≤ c.loop-stream.steps + stream_work net stores s ts) is c.meet_read.ensures.ticks in omega (arith, part, was, one)
