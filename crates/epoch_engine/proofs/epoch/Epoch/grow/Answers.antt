use Rattle.std.proofs.Common.{◌∙◌, ap, sym, ℕ, false, [], take}
use Rattle.epoch_engine.proofs.EngineLemmas.{touched_back, touched_longer}
use Rattle.epoch_engine.proofs.PlanLemmas.{cut_back}
use Rattle.epoch_engine.proofs.epoch.Epoch.grow.Goals as goal

-- what was put at the end is taken away again
pub returns-in-Err-clause-kept : goal.returns-in-Err-clause-kept
returns-in-Err-clause-kept c =
    let had = c.args.self.now.tuples in
    c.truncate-in-Err.ensures ∙ ap (λ (n : ℕ). take n c.lengthen.new.self.tuples) c.len-had.ensures ∙ cut_back [] had c.lengthen.new.self.tuples c.lengthen.ensures.tuples

pub returns-in-Err-clause-touched : goal.returns-in-Err-clause-touched
returns-in-Err-clause-touched c =
    let old = c.args.self.now in
    let flags = c.truncate.ensures ∙ (λ i. take (c.len-had.ensures i) c.lengthen.new.self.touched.flags) ∙ ap (λ (n : ℕ). take n c.lengthen.new.self.touched.flags) (sym c.requires.touched.below) ∙ cut_back false old.touched.flags c.lengthen.new.self.touched.flags c.lengthen.ensures.flags in
    let tuples = c.truncate-in-Err.ensures ∙ ap (λ (n : ℕ). take n c.lengthen.new.self.tuples) c.len-had.ensures ∙ cut_back [] old.tuples c.lengthen.new.self.tuples c.lengthen.ensures.tuples in
    touched_back old.tuples c.truncate-in-Err.new.self old.touched c.truncate.new.self c.lengthen.new.self.touched.numbers flags c.lengthen.ensures.numbers tuples c.requires.touched

-- the streams that came have no tuples
pub returns-in-Ok-clause-touched : goal.returns-in-Ok-clause-touched
returns-in-Ok-clause-touched c =
    let old = c.args.self.now in
    let new = c.lengthen.new.self in
    touched_longer old.tuples new.tuples old.touched new.touched c.lengthen.ensures.flags c.lengthen.ensures.numbers c.lengthen.ensures.tuples (c.in-Ok.ensures.many_flags ∙ sym c.in-Ok.ensures.many_tuples) c.requires.touched
