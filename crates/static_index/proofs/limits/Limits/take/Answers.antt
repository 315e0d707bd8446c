use Rattle.static_index.specs.declared.limits.Limits.{Limits}
use Rattle.static_index.proofs.LimitLemmas.{limit_kept}
use Rattle.static_index.proofs.limits.Limits.take.Goals as goal

pub returns-in-Int : goal.returns-in-Int
returns-in-Int c = λ other n apart has.
    let new : Limits = record { numbers = c.take_numbered.new.buckets; others = c.args.self.now.others } in
    limit_kept c.args.self.now new n (λ k h. c.take_numbered.ensures k n apart h) (λ l h. h) other has

-- the literal is no number
pub returns-in_default : goal.returns-in_default
returns-in_default c = λ other n apart has.
    let new : Limits = record { numbers = c.args.self.now.numbers; others = c.take_ordered.new.buckets } in
    limit_kept c.args.self.now new n (λ k h. h) (λ l h. c.take_ordered.ensures l n apart h) other has
