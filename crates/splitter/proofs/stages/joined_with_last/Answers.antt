use Rattle.std.proofs.Common.{◌≡◌, ◌∙◌, ◌-◌, List, ap, length, set, sym}
use Rattle.std.specs.Prelude.{Some, slice_get}
use Rattle.automaton.specs.declared.step.Stage.{Stage}
use Rattle.automaton.specs.declared.step.Stage.TheVariants.{Keep}
use Rattle.splitter.proofs.StepLemmas.{kept-last, kept-none}
use Rattle.splitter.proofs.stages.joined_with_last.Goals as goal

-- the step ends in a Keep
pub returns-in_ok-both-in-Keep : goal.returns-in_ok-both-in-Keep
returns-in_ok-both-in-Keep c =
    let there : slice_get c.args.step.now (length c.args.step.now - 1) ≡ Some (Keep c.in-Keep.other) =
    ap (λ (s : List Stage). slice_get s (length s - 1)) (sym c.as_slice.ensures) ∙ sym c.in-Some.ensures.value ∙ ap (λ (s : Stage). Some s) c.in-Keep.is in
    let both = kept-last c.args.step.now c.in-Keep.other c.args.condition.now there in
    (both.0, both.1 ∙ ap (λ (p : List _). set c.args.step.now (length c.args.step.now - 1) (Keep p)) (sym c.in_ok-both-in-Keep.ensures))

-- the step ends in a Make
pub returns-in-Make : goal.returns-in-Make
returns-in-Make c =
    kept-none c.args.step.now c.args.condition.now
    (λ other is. let there = ap (λ (s : List Stage). slice_get s (length s - 1)) (sym c.as_slice.ensures) ∙ sym c.in-Some.ensures.value ∙ ap (λ (s : Stage). Some s) c.in-Make.is in cc)
