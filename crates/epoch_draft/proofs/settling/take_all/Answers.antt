use Rattle.std.proofs.Common.{◌≡◌, length, get_or, take, arith}
use Rattle.std.specs.Prelude.{Some, slice_get}
use Rattle.std.proofs.lemmas.List.Elements.{All-get_or}
use Rattle.epoch_draft.specs.Held.{held}
use Rattle.epoch_draft.specs.Settling.{PairSuits, tuples_in}
use Rattle.epoch_draft.specs.declared.draft.Pair.{Pair}
use Rattle.epoch_draft.proofs.SettleLemmas.{taken_fewer, taken_fits, taken_more, taken_none, takes_more}
use Rattle.epoch_draft.proofs.StoreLemmas.{same_has}
use Rattle.epoch_draft.proofs.settling.take_all.Goals as goal

abbrev nowhere : Pair
nowhere = record { state = 0; stream = 0; place = 0 }

pub loop-pair-init : goal.loop-pair-init
loop-pair-init g c = record { taken = taken_none c.args.network.now (tuples_in c.args.opened.now c.args.made.now) c.args.stores.now; ticks = omega arith }

pub take_at-requires-clause-fits : goal.take_at-requires-clause-fits
take_at-requires-clause-fits g c =
    let net = c.args.network.now in
    let news = tuples_in c.args.opened.now c.args.made.now in
    let pairs = c.args.pairs.now in
    let i = c.loop-pair.pair-index in
    let p = get_or pairs i nowhere in
    let suits = All-get_or (PairSuits net news (length c.args.opened.now) (held c.args.stores.now)) pairs i nowhere c.loop-pair-test.true c.requires.pairs in
    let got : slice_get (news p.stream) p.place ≡ Some c.tuple_of-tuple.result.now = c.tuple_of-tuple.ensures in
    taken_fits net news (length c.args.opened.now) pairs (take i pairs) p c.args.stores.now c.loop-pair.stores c.loop-pair.invariant.taken suits c.tuple_of-tuple.result.now got

pub take_at-requires-clause-stores : goal.take_at-requires-clause-stores
take_at-requires-clause-stores g c = same_has c.args.network.now c.args.stores.now c.loop-pair.stores c.loop-pair.invariant.taken.same c.requires.stores

pub take_at-requires-clause-key : goal.take_at-requires-clause-key
take_at-requires-clause-key g c = λ w at.
    let news = tuples_in c.args.opened.now c.args.made.now in
    let pairs = c.args.pairs.now in
    let i = c.loop-pair.pair-index in
    let p = get_or pairs i nowhere in
    let suits = All-get_or (PairSuits c.args.network.now news (length c.args.opened.now) (held c.args.stores.now)) pairs i nowhere c.loop-pair-test.true c.requires.pairs in
    suits.key w c.tuple_of-tuple.result.now at c.tuple_of-tuple.ensures

-- one pair more
pub loop-pair-preserved : goal.loop-pair-preserved
loop-pair-preserved g c =
    let net = c.args.network.now in
    let news = tuples_in c.args.opened.now c.args.made.now in
    let pairs = c.args.pairs.now in
    let i = c.loop-pair.pair-index in
    let p = get_or pairs i nowhere in
    let got : slice_get (news p.stream) p.place ≡ Some c.tuple_of-tuple.result.now = c.tuple_of-tuple.ensures in
    let more = takes_more net news (held c.args.stores.now) pairs i nowhere c.tuple_of-tuple.result.now c.loop-pair-test.true got in
    let fewer = taken_fewer net news (take i pairs) c.args.stores.now c.loop-pair.stores c.loop-pair.invariant.taken p.state c.tuple_of-tuple.result.now in
    let was = c.loop-pair.invariant.ticks in
    let one = c.take_at.ensures.ticks in
    record {
      taken = taken_more net news pairs i nowhere c.tuple_of-tuple.result.now c.args.stores.now c.loop-pair.stores c.take_at.new.stores c.loop-pair-test.true got c.loop-pair.invariant.taken c.take_at.ensures.taken;
      ticks = omega (arith, more, fewer, was, one);
    }
