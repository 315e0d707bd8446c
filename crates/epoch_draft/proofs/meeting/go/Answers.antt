use Rattle.std.proofs.Common.{◌≡◌, ◌∙◌, sym, ap, subst, ℕ, ◌<◌, ◌∷◌, [], length, List}
use Rattle.std.specs.Prelude.{Option, Some, slice_get}
use Rattle.std.specs.List.{All}
use Rattle.std.proofs.lemmas.List.Elements.{All-head}
use Rattle.automaton.specs.States.{Net, ends_at}
use Rattle.automaton.specs.declared.network.End.{End}
use Rattle.automaton.specs.declared.step.Stage.{Stage}
use Rattle.stream_readers.specs.Targets.{IsTarget, only_fixed, out_by, step_of, way_of}
use Rattle.stream_readers.specs.Ways.{Into, MeetsParts, Out, Way}
use Rattle.stream_readers.specs.declared.target.Target.{Target}
use Rattle.epoch_laws.specs.Instances.{began, begins}
use Rattle.epoch_draft.specs.Drafts.{Grows}
use Rattle.epoch_draft.specs.Found.{IsLeftOf}
use Rattle.epoch_draft.specs.Moves.{moves_on}
use Rattle.epoch_draft.specs.Suits.{WaySuits}
use Rattle.epoch_draft.proofs.Lists.{all_at}
use Rattle.epoch_draft.proofs.Lists.{on_ok}
use Rattle.epoch_draft.proofs.meeting.go.Goals as goal

pub go_into-requires-clause-suits : goal.go_into-requires-clause-suits
go_into-requires-clause-suits g c =
    let net = c.args.network.now in
    let x = c.args.tuple.now in
    let left = subst (λ (step : List Stage). IsLeftOf step c.left_of-step.result.now) (c.as_slice.ensures ∙ c.step.ensures) c.left_of-step.ensures in
    left.suits x (All-head (WaySuits net x) (Into c.in-Edge.state) [] (subst (λ (t : Target). All (WaySuits net x) (way_of net t)) c.in-Edge.is c.requires.suits))

-- where the target says so, the end's step asks nothing but fixed parts
pub left_unless-step-requires : goal.left_unless-step-requires
left_unless-step-requires g c = λ passes.
    let net = c.args.network.now in
    let place = c.in-End.place in
    let end = c.get-end.result.now in
    let got : slice_get (ends_at net place.state) place.place ≡ Some end = ap (λ es. slice_get es place.place) (sym c.ends.ensures) ∙ c.get-end.ensures in
    let told = (subst (IsTarget net) c.in-End.is c.requires.target).2 in
    ap only_fixed (c.as_slice-in-End.ensures ∙ ap step_of (sym got)) ∙ sym told ∙ passes

pub go_out-requires-clause-below : goal.go_out-requires-clause-below
go_out-requires-clause-below g c =
    let net = c.args.network.now in
    let place = c.in-End.place in
    let end = c.get-end.result.now in
    let got : slice_get (ends_at net place.state) place.place ≡ Some end = ap (λ es. slice_get es place.place) (sym c.ends.ensures) ∙ c.get-end.ensures in
    all_at (λ (e : End). e.out < length c.args.draft.now.made) (ends_at net place.state) place.place end (c.requires.draft.below place.state) got

pub go_out-requires-clause-suits : goal.go_out-requires-clause-suits
go_out-requires-clause-suits g c =
    let net = c.args.network.now in
    let x = c.args.tuple.now in
    let place = c.in-End.place in
    let end = c.get-end.result.now in
    let got : slice_get (ends_at net place.state) place.place ≡ Some end = ap (λ es. slice_get es place.place) (sym c.ends.ensures) ∙ c.get-end.ensures in
    let left = subst (λ (step : List Stage). IsLeftOf step c.left_unless-step.result.now) c.as_slice-in-End.ensures c.left_unless-step.ensures in
    left.suits x
    (All-head (WaySuits net x) (Out end) []
    (subst (λ (o : Option End). All (WaySuits net x) (out_by o)) got (subst (λ (t : Target). All (WaySuits net x) (way_of net t)) c.in-End.is c.requires.suits)))

pub go_out-requires-clause-passes : goal.go_out-requires-clause-passes
go_out-requires-clause-passes g c =
    let net = c.args.network.now in
    let x = c.args.tuple.now in
    let place = c.in-End.place in
    let end = c.get-end.result.now in
    let got : slice_get (ends_at net place.state) place.place ≡ Some end = ap (λ es. slice_get es place.place) (sym c.ends.ensures) ∙ c.get-end.ensures in
    let left = subst (λ (step : List Stage). IsLeftOf step c.left_unless-step.result.now) c.as_slice-in-End.ensures c.left_unless-step.ensures in
    left.passes x
    (All-head (MeetsParts net x) (Out end) []
    (subst (λ (o : Option End). All (MeetsParts net x) (out_by o)) got (subst (λ (t : Target). All (MeetsParts net x) (way_of net t)) c.in-End.is c.requires.met)))

-- the tuple begins at its detection
pub returns-in_ok-go_into-in-Edge-clause-grows : goal.returns-in_ok-go_into-in-Edge-clause-grows
returns-in_ok-go_into-in-Edge-clause-grows g c =
    let net = c.args.network.now in
    let x = c.args.tuple.now in
    let old = c.args.draft.now in
    let new = c.go_into.new.draft in
    let next = c.in-Edge.state in
    let left = subst (λ (step : List Stage). IsLeftOf step c.left_of-step.result.now) (c.as_slice.ensures ∙ c.step.ensures) c.left_of-step.ensures in
    let passes = left.passes x (All-head (MeetsParts net x) (Into next) [] (subst (λ (t : Target). All (MeetsParts net x) (way_of net t)) c.in-Edge.is c.requires.met)) in
    subst (λ (ws : List Way). Grows net (moves_on ws (begins x)) old new) (sym (ap (way_of net) c.in-Edge.is))
    (subst (λ (at : ℕ). Grows net (moves_on (Into next ∷ []) (began at x)) old new) c.at.ensures.value (c.in_ok-go_into-in-Edge.ensures.grows net c.requires.draft.fits.beads passes))

pub returns-in-End-clause-grows : goal.returns-in-End-clause-grows
returns-in-End-clause-grows g c =
    let net = c.args.network.now in
    let x = c.args.tuple.now in
    let old = c.args.draft.now in
    let new = c.go_out.new.draft in
    let place = c.in-End.place in
    let end = c.get-end.result.now in
    let got : slice_get (ends_at net place.state) place.place ≡ Some end = ap (λ es. slice_get es place.place) (sym c.ends.ensures) ∙ c.get-end.ensures in
    let ways : way_of net c.args.target ≡ Out end ∷ [] = ap (way_of net) c.in-End.is ∙ ap out_by got in
    on_ok c.go_out.result ((any : Net) → length old.beads ≡ length any → Grows any (moves_on (Out end ∷ []) (began c.at-in-End.result x)) old new) (Grows net (moves_on (way_of net c.args.target) (begins x)) old new)
    (λ grows. subst (λ (ws : List Way). Grows net (moves_on ws (begins x)) old new) (sym ways) (subst (λ (at : ℕ). Grows net (moves_on (Out end ∷ []) (began at x)) old new) c.at-in-End.ensures.value (grows net c.requires.draft.fits.beads))) c.go_out.ensures.grows
