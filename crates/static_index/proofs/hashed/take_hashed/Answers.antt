use Rattle.std.proofs.Common.{◌∙◌, refl, sym, subst, Some, None, Contains}
use Rattle.std.specs.Option.{IsSome}
use Rattle.std.specs.HashMap as hash
use Rattle.static_index.specs.Buckets.{equals, ids_in}
use Rattle.static_index.proofs.BucketLemmas.{equals_exact, kept_by}
use Rattle.static_index.proofs.IdLemmas.{others_stay, none_in}
use Rattle.static_index.proofs.hashed.take_hashed.Goals as goal

pub returns-else-len-eq0 : goal.returns-else-len-eq0
returns-else-len-eq0 c = λ other n apart has.
    let was = c.in-Some.ensures.value in
    let step = (c.get_mut.follows.holds c.take_out.new.self).3 (subst IsSome was refl) in
    kept_by equals equals_exact ids_in (hash.get equals c.args.buckets.now) (hash.get equals (c.get_mut.follows.lender c.take_out.new.self)) c.args.lit.now (Some c.take_out.new.self) step.0 n
    (λ there. others_stay _ _ c.take_out.ensures n apart (subst (λ o. Contains (ids_in o) n) (sym was) there)) other has

pub returns-then-len-eq0 : goal.returns-then-len-eq0
returns-then-len-eq0 c = λ other n apart has.
    let mid = c.get_mut.follows.lender c.take_out.new.self in
    let was = c.in-Some.ensures.value in
    let step = (c.get_mut.follows.holds c.take_out.new.self).3 (subst IsSome was refl) in
    let left = kept_by equals equals_exact ids_in (hash.get equals c.args.buckets.now) (hash.get equals mid) c.args.lit.now (Some c.take_out.new.self) step.0 n
    (λ there. others_stay _ _ c.take_out.ensures n apart (subst (λ o. Contains (ids_in o) n) (sym was) there)) other has in
    kept_by equals equals_exact ids_in (hash.get equals mid) (hash.get equals c.swap_remove.new.self) c.args.lit.now None c.swap_remove.ensures.updates.0 n
    (λ there. absurd (none_in c.take_out.new.self n (sym c.len.ensures ∙ c.if-len-eq0.true) (subst (λ o. Contains (ids_in o) n) step.1 there))) other left
