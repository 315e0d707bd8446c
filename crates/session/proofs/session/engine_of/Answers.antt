use Rattle.std.proofs.Common.{◌≡◌, ◌∙◌, [], None, sym, subst}
use Rattle.std.proofs.lemmas.Result.{IfOk-weaker}
use Rattle.splitter.specs.Chains.{lines_of}
use Rattle.automaton.specs.declared.layout.Layout.{Layout}
use Rattle.catalogue.specs.Catalogued.{program_in}
use Rattle.catalogue.specs.Standing.{IsLayoutOver}
use Rattle.change_laws.specs.AtOne.{AreAtOne}
use Rattle.change_laws.proofs.StartLemmas.{new_are_at_one}
use Rattle.epoch_engine.specs.EngineStandsFor.{EngineStandsFor}
use Rattle.epoch_engine.specs.Starts.{IsNew}
use Rattle.session.specs.Standing.{lines_over, program_over}
use Rattle.session.proofs.session.engine_of.Goals as goal

-- the layout fits the merged network
pub make-requires : goal.make-requires
make-requires c =
    let now = c.args.catalogue.now in
    let lines = rw c.lines.ensures.value at c.in_ok-merged.ensures.lines in
    let layout = subst (IsLayoutOver now.streams (program_over now)) (sym c.in_ok-layout.ensures) c.layout.ensures.laid in
    (lines_of (program_over now), lines, layout.fits)

-- the engine is at one with the catalogue
pub returns-clause-at_one : goal.returns-clause-at_one
returns-clause-at_one c =
    let now = c.args.catalogue.now in
    let ends = rw c.lines.ensures.value at c.in_ok-merged.ensures.endings in
    let layout = c.in_ok-layout.ensures ∙ c.layout.ensures.value in
    IfOk-weaker c.make.result (IsNew c.in_ok-merged.merged c.in_ok-layout.layout) (AreAtOne now)
    (λ engine new. new_are_at_one.at_one now c.in_ok-merged.merged engine c.queries-queries.ensures.stands c.requires ends (subst (λ (l : Layout). IsNew c.in_ok-merged.merged l engine) layout new)) c.make.ensures

-- its layout is one of the catalogue
pub returns-clause-laid : goal.returns-clause-laid
returns-clause-laid c =
    let now = c.args.catalogue.now in
    let layout = subst (IsLayoutOver now.streams (program_over now)) (sym c.in_ok-layout.ensures) c.layout.ensures.laid in
    IfOk-weaker c.make.result (IsNew c.in_ok-merged.merged c.in_ok-layout.layout) (λ engine. IsLayoutOver now.streams (program_in now) engine.layout)
    (λ engine new. subst (IsLayoutOver now.streams (program_over now)) (sym new.same_layout) layout) c.make.ensures

-- it stands for nothing
pub returns-clause-stands : goal.returns-clause-stands
returns-clause-stands c =
    let now = c.args.catalogue.now in
    let ends = rw c.lines.ensures.value at c.in_ok-merged.ensures.endings in
    let layout = c.in_ok-layout.ensures ∙ c.layout.ensures.value in
    IfOk-weaker c.make.result (IsNew c.in_ok-merged.merged c.in_ok-layout.layout) (λ engine. EngineStandsFor engine (lines_over now) [])
    (λ engine new. new_are_at_one.stands now c.in_ok-merged.merged engine c.queries-queries.ensures.stands c.requires ends (subst (λ (l : Layout). IsNew c.in_ok-merged.merged l engine) layout new)) c.make.ensures

-- it has closed nothing, and nothing is open
pub returns-clause-none_closed : goal.returns-clause-none_closed
returns-clause-none_closed c = IfOk-weaker c.make.result (IsNew c.in_ok-merged.merged c.in_ok-layout.layout) (λ engine. engine.closed_time ≡ None) (λ engine new. new.none_closed) c.make.ensures

pub returns-clause-none_open : goal.returns-clause-none_open
returns-clause-none_open c = IfOk-weaker c.make.result (IsNew c.in_ok-merged.merged c.in_ok-layout.layout) (λ engine. engine.time ≡ None) (λ engine new. new.none_open) c.make.ensures
