use Rattle.std.proofs.Common.{sym, arith}
use Rattle.std.proofs.lemmas.Option.{get_or_from_slice_get}
use Rattle.catalogue.proofs.TallyLemmas.{tally_taken, tally_there}
use Rattle.catalogue.proofs.tallying.untally_read.Goals as goal

-- the stream has a tally
pub get-tally-requires : goal.get-tally-requires
get-tally-requires c = (tally_there c.args.tallies.now c.args.stream c.requires).0

pub get_mut-requires : goal.get_mut-requires
get_mut-requires c = (tally_there c.args.tallies.now c.args.stream c.requires).0

pub overflow_sub-tally : goal.overflow_sub-tally
overflow_sub-tally c =
    let here = get_or_from_slice_get c.args.tallies.now c.args.stream c.get-tally.result.now 0 c.get-tally.ensures in
    omega (arith, here, (tally_there c.args.tallies.now c.args.stream c.requires).1)

-- it is one less
pub returns : goal.returns
returns c =
    let here = get_or_from_slice_get c.args.tallies.now c.args.stream c.get-tally.result.now 0 c.get-tally.ensures in
    let there = tally_there c.args.tallies.now c.args.stream c.requires in
    tally_taken c.args.tallies.now c.args.stream c.get-tally.result.now there.0 (sym here) (omega (arith, here, there.1))
