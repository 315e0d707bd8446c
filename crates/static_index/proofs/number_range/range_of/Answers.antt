use Rattle.std.proofs.Common.{take}
use Rattle.static_index.proofs.NumberRangeLemmas.{bounds_up_to}
use Rattle.static_index.proofs.number_range.range_of.Goals as goal

pub places-preserved : goal.places-preserved
places-preserved c =
    let parts = c.args.parts.now in
    bounds_up_to c.narrowed-range.result parts c.places.place c.get.result.now c.get.ensures (c.narrowed-range.ensures (take c.places.place parts) c.places.invariant)
