use Rattle.std.proofs.Common.{◌≡◌, ◌∙◌, sym, subst, ◌∷◌, [], ◌<◌, length, get_or, set}
use Rattle.std.specs.Prelude.{OnOk}
use Rattle.automaton.specs.States.{Net, step_at}
use Rattle.automaton.specs.Steps.{pass}
use Rattle.stream_readers.specs.Ways.{Into}
use Rattle.epoch_laws.specs.Instances.{began}
use Rattle.epoch_draft.specs.Drafts.{DraftFits, Grows}
use Rattle.epoch_draft.specs.Moves.{moves_on}
use Rattle.epoch_draft.specs.declared.draft.Draft.{Draft}
use Rattle.epoch_draft.proofs.DraftLemmas.{into_grows}
use Rattle.epoch_draft.proofs.Lists.{on_ok_four}
use Rattle.epoch_draft.proofs.going.go_into.Goals as goal

pub returns-in-Some-clause-grows : goal.returns-in-Some-clause-grows
returns-in-Some-clause-grows g c =
    let old = c.pass_on.new.draft in
    let new = c.add_bead.new.self in
    let w = c.args.state in
    let step = c.args.step.now in
    let x = c.args.tuple.now in
    let first = c.args.first in
    let y = c.in-Some.passed in
    let kept : old ≡ c.args.draft.now = c.pass_on.ensures.same in
    let below : w < length old.beads = subst (λ (draft : Draft). w < length draft.beads) (sym kept) c.requires.below in
    subst (λ (draft : Draft). OnOk c.add_bead.result ((net : Net) → length draft.beads ≡ length net → pass step x ≡ pass (step_at net w) x → Grows net (moves_on (Into w ∷ []) (began first x)) draft new)) kept
    (on_ok_four c.add_bead.result (new.beads ≡ set old.beads w (began first y ∷ get_or old.beads w [])) (new.made ≡ old.made) (new.due ≡ old.due) (DraftFits (length old.made) (length old.beads) new)
    ((net : Net) → length old.beads ≡ length net → pass step x ≡ pass (step_at net w) x → Grows net (moves_on (Into w ∷ []) (began first x)) old new)
    (λ beads made due fits net long same. into_grows net old new w (began first x) y below (sym same ∙ sym c.in_ok-passed.ensures.value ∙ c.in-Some.is) long beads made due fits)
    c.add_bead.ensures.beads c.add_bead.ensures.made c.add_bead.ensures.due c.add_bead.ensures.fits)
