use Rattle.std.proofs.Common.{◌≡◌, sym, subst, Contains, arith, to_z, of_z}
use Rattle.std.specs.Int.{w128}
use Rattle.std.proofs.lemmas.Int.{to_z-of_z}
use Rattle.std.proofs.lemmas.Result.{on_ok_weaker}
use Rattle.static_index.specs.Buckets.{numbered_ids}
use Rattle.static_index.specs.Limits.{limit_ids}
use Rattle.static_index.specs.declared.limits.Limits.{Limits}
use Rattle.static_index.proofs.LimitLemmas.{limit_kept, other_ids}
use Rattle.static_index.proofs.limits.Limits.put.Goals as goal

pub returns-in-Int-clause-ok : goal.returns-in-Int-clause-ok
returns-in-Int-clause-ok c =
    let new : Limits = record { numbers = c.put_numbered.new.buckets; others = c.args.self.now.others } in
    let exact : to_z w128 (of_z w128 c.in-Int.number) ≡ c.in-Int.number = grind (arith, to_z-of_z) in
    on_ok_weaker c.put_numbered.result
    (λ has. subst (λ lit. Contains (limit_ids new lit) c.args.id) (sym c.in-Int.is) (subst (λ k. Contains (numbered_ids new.numbers k) c.args.id) exact has))
    c.put_numbered.ensures.ok

pub returns-in-Int-clause-kept : goal.returns-in-Int-clause-kept
returns-in-Int-clause-kept c = λ other n has.
    let new : Limits = record { numbers = c.put_numbered.new.buckets; others = c.args.self.now.others } in
    limit_kept c.args.self.now new n (λ k h. c.put_numbered.ensures.kept k n h) (λ l h. h) other has

-- the literal is no number
pub returns-in_default : goal.returns-in_default
returns-in_default c = record {
  ok =
      let new : Limits = record { numbers = c.args.self.now.numbers; others = c.put_ordered.new.buckets } in
      on_ok_weaker c.put_ordered.result (λ has. subst (λ ids. Contains ids c.args.id) (sym (other_ids new c.args.lit.now c.in_default.not-Int)) has) c.put_ordered.ensures.ok;
  kept = λ other n has.
      let new : Limits = record { numbers = c.args.self.now.numbers; others = c.put_ordered.new.buckets } in
      limit_kept c.args.self.now new n (λ k h. h) (λ l h. c.put_ordered.ensures.kept l n h) other has;
}
