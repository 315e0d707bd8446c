use Rattle.std.proofs.Common.{◌≡◌, ◌∙◌, refl, sym, subst, Some, None, Contains}
use Rattle.std.specs.Option.{IsSome}
use Rattle.std.specs.HashMap as hash
use Rattle.static_index.specs.Buckets.{equals, ids_in}
use Rattle.static_index.proofs.BucketLemmas.{equals_exact, kept_by}
use Rattle.static_index.proofs.IdLemmas.{none_of_nil}
use Rattle.static_index.proofs.hashed.put_hashed.Goals as goal

pub returns-in-Some-clause-kept : goal.returns-in-Some-clause-kept
returns-in-Some-clause-kept c = λ other n has.
    let was = c.in-Some.ensures.value in
    let step = (c.get_mut.follows.holds c.put.new.self).3 (subst IsSome was refl) in
    kept_by equals equals_exact ids_in (hash.get equals c.args.buckets.now) (hash.get equals (c.get_mut.follows.lender c.put.new.self)) c.args.lit.now (Some c.put.new.self) step.0 n
    (λ there. c.put.ensures.kept n (subst (λ o. Contains (ids_in o) n) (sym was) there)) other has

pub returns-clause-kept : goal.returns-clause-kept
returns-clause-kept c = λ other n has.
    let mid = c.get_mut.follows.lender-at-none in
    let same = c.get_mut.follows.holds-at-none in
    let none : hash.get equals mid c.in_ok-key.key ≡ None = (λ i. hash.get equals (same i) (c.in_ok-key.ensures i)) ∙ sym c.in_default.ensures.value in
    kept_by equals equals_exact ids_in (hash.get equals mid) (hash.get equals c.insert.new.self) c.in_ok-key.key (Some c.put-2.new.self) c.in_ok-insert.ensures.updates.0 n
    (λ there. absurd (none_of_nil n (subst (λ o. Contains (ids_in o) n) none there))) other (subst (λ m. Contains (ids_in (hash.get equals m other)) n) (sym same) has)
