use Rattle.std.proofs.Common.{sym, subst}
use Rattle.catalogue.specs.Catalogued.{program_in}
use Rattle.catalogue.specs.Standing.{IsLayoutOver}
use Rattle.splitter.specs.Chains.{lines_of}
use Rattle.public_calls.proofs.tests.offering.engine.Goals as goal

-- the layout fits the merged network
pub make-requires : goal.make-requires
make-requires c =
    let now = c.args.catalogue.now in
    let lines = rw c.lines.ensures.value at c.in_ok-merged.ensures.lines in
    let layout = subst (IsLayoutOver now.streams (program_in now)) (sym c.in_ok-layout.ensures) c.layout.ensures.laid in
    (lines_of (program_in now), lines, layout.fits)
