use Rattle.std.proofs.Common.{◌≡◌, ◌∙◌, sym, ap, List, ◌++◌, ◌∷◌, [], true, get_or, length, set}
use Rattle.automaton.specs.States.{Net}
use Rattle.automaton.specs.Steps.{pass}
use Rattle.automaton.specs.declared.step.Stage.{Stage}
use Rattle.stream_readers.specs.Ways.{Out}
use Rattle.semantics.specs.Births.{is_after}
use Rattle.epoch_laws.specs.Instances.{began}
use Rattle.epoch_draft.specs.Drafts.{DraftFits, Grows}
use Rattle.epoch_draft.specs.Marks.{MarksMore, MarksNoOther}
use Rattle.epoch_draft.specs.Moves.{moves_on}
use Rattle.epoch_draft.proofs.DraftLemmas.{passed_grows}
use Rattle.epoch_draft.proofs.Lists.{on_ok_five}
use Rattle.epoch_draft.proofs.going.hand_out.Goals as goal

-- what passed the step goes out
pub returns-in-Some-clause-grows : goal.returns-in-Some-clause-grows
returns-in-Some-clause-grows g c =
    let end = c.args.end.now in
    let x = c.args.tuple in
    let old = c.args.draft.now in
    let mid = c.pass_made.new.draft in
    let new = c.add_made.new.self in
    let read : is_after end.birth c.args.first ≡ true = sym c.is_read.ensures ∙ c.if-not-is_read.false in
    let passes = ap (λ (stages : List Stage). pass stages x) (sym c.as_slice.ensures) ∙ sym c.in_ok-passed.ensures.value ∙ c.in-Some.is in
    on_ok_five c.add_made.result (new.made ≡ set mid.made end.out (get_or mid.made end.out [] ++ c.in-Some.passed ∷ [])) (new.beads ≡ mid.beads) (MarksMore mid.due new.due) (MarksNoOther end.out mid.due new.due) (DraftFits (length mid.made) (length mid.beads) new)
    ((net : Net) → length old.beads ≡ length net → Grows net (moves_on (Out end ∷ []) (began c.args.first x)) old new)
    (λ made beads due alone fits net many.
    passed_grows net old mid new end (began c.args.first x) c.in-Some.passed c.pass_made.ensures.same c.requires.below read passes many made beads due alone fits)
    c.add_made.ensures.made c.add_made.ensures.beads c.add_made.ensures.due c.add_made.ensures.no_other c.add_made.ensures.fits
