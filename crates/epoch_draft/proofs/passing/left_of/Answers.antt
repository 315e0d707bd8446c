use Rattle.std.proofs.Common.{◌-◌, length, length-drop, drop, sym, subst, arith}
use Rattle.std.proofs.lemmas.List.{take_all}
use Rattle.epoch_draft.specs.Found.{IsLeftOf}
use Rattle.epoch_draft.proofs.FoundLemmas.{left_behind, left_whole}
use Rattle.epoch_draft.proofs.passing.left_of.Goals as goal

-- a condition of fixed parts alone is passed
pub returns-in-Some : goal.returns-in-Some
returns-in-Some c =
    let step = c.args.step.now in
    let long = length-drop 1 step in
    subst (IsLeftOf step) (sym (take_all (length step - 1) (drop 1 step) (omega (arith, long)))) (left_behind step c.in-Some.stage.now (sym c.in-Some.ensures.value) (c.is_fixed_stage.ensures c.if-is_fixed_stage.true))

-- any other step is left whole
pub returns-in_default : goal.returns-in_default
returns-in_default c = left_whole c.args.step.now

pub returns-in_default-2 : goal.returns-in_default-2
returns-in_default-2 c = left_whole c.args.step.now
