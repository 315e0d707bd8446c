use Rattle.std.proofs.Common.{◌∙◌, sym, subst}
use Rattle.automaton.specs.declared.layout.Layout.{Layout}
use Rattle.catalogue.specs.Catalogued.{program_in}
use Rattle.catalogue.specs.Standing.{IsLayoutOver}
use Rattle.epoch_engine.specs.Starts.{IsNew}
use Rattle.splitter.specs.Chains.{lines_of}
use Rattle.public_calls.proofs.MonitorLemmas.{starts}
use Rattle.public_calls.proofs.tests.monitors.Monitor.make.Goals as goal

-- the layout fits the merged network
pub make-requires : goal.make-requires
make-requires g c =
    let now = c.in-Ok.catalogue in
    let lines = rw c.lines.ensures.value at c.in_ok-merged.ensures.lines in
    let layout = subst (IsLayoutOver now.streams (program_in now)) (sym c.in_ok-layout.ensures) c.layout.ensures.laid in
    (lines_of (program_in now), lines, layout.fits)

-- the engine is new
pub invariant_of-result : goal.invariant_of-result
invariant_of-result g c =
    let ends = rw c.lines.ensures.value at c.in_ok-merged.ensures.endings in
    let layout = c.in_ok-layout.ensures ∙ c.layout.ensures.value in
    starts c.in-Ok.catalogue c.in_ok-merged.merged c.in_ok-engine.engine c.queries-queries.ensures.stands c.in-Ok.ensures.ok.unchanged ends (subst (λ (l : Layout). IsNew c.in_ok-merged.merged l c.in_ok-engine.engine) layout c.in_ok-engine.ensures)
