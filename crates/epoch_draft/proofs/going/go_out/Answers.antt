use Rattle.std.proofs.Common.{◌≡◌, ◌∙◌, sym, ap, [], List, true, length, ◌==◌, arith}
use Rattle.std.proofs.lemmas.Bool.Decides.{nat_tests}
use Rattle.std.proofs.lemmas.List.{nil_from_length}
use Rattle.automaton.specs.Steps.{pass}
use Rattle.automaton.specs.declared.step.Stage.{Stage}
use Rattle.semantics.specs.Births.{is_after}
use Rattle.epoch_laws.specs.Instances.{began}
use Rattle.epoch_draft.proofs.DraftLemmas.{out_grows, passed_grows}
use Rattle.epoch_draft.proofs.MadeLemmas.{ends_set}
use Rattle.epoch_draft.proofs.going.go_out.Goals as goal

-- the tuple goes out as it is
pub returns-then-is_empty-clause-grows : goal.returns-then-is_empty-clause-grows
returns-then-is_empty-clause-grows g c = λ net many.
    let step = c.args.way.now.step.now in
    let x = c.args.tuple.now in
    let read : is_after c.args.way.now.end.now.birth c.args.first ≡ true = sym c.is_read.ensures ∙ c.if-not-is_read.false in
    let none : step ≡ [] = nil_from_length step (let e : (length step == 0) ≡ true = sym c.if-is_empty.ensures in grind (arith, nat_tests)) in
    out_grows net c.args.draft.now c.add_copy.new.self c.args.way.now.end.now (began c.args.first x) x c.requires.below read (sym c.requires.passes ∙ ap (λ (stages : List Stage). pass stages x) none) many c.in_ok-add_copy.ensures.made c.in_ok-add_copy.ensures.beads c.in_ok-add_copy.ensures.due c.in_ok-add_copy.ensures.no_other c.in_ok-add_copy.ensures.fits

pub returns-then-is_empty-clause-last : goal.returns-then-is_empty-clause-last
returns-then-is_empty-clause-last g c = ends_set c.args.draft.now.made c.add_copy.new.self.made c.args.way.now.end.now.out c.args.tuple.now c.requires.below c.in_ok-add_copy.ensures.made

-- what passed the stages goes out
pub returns-in_ok-add_made-in-Some-clause-grows : goal.returns-in_ok-add_made-in-Some-clause-grows
returns-in_ok-add_made-in-Some-clause-grows g c = λ net many.
    let end = c.args.way.now.end.now in
    let x = c.args.tuple.now in
    let read : is_after end.birth c.args.first ≡ true = sym c.is_read.ensures ∙ c.if-not-is_read.false in
    let ok = c.in_ok-add_made-in-Some.ensures in
    passed_grows net c.args.draft.now c.pass_stages.new.draft c.add_made.new.self end (began c.args.first x) c.in-Some.passed c.pass_stages.ensures.same c.requires.below read (sym c.requires.passes ∙ sym c.in_ok-passed.ensures.value ∙ c.in-Some.is) many ok.made ok.beads ok.due ok.no_other ok.fits
