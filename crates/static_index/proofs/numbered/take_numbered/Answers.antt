use Rattle.std.proofs.Common.{◌∙◌, refl, sym, subst, Some, None, Contains, to_z, of_z}
use Rattle.std.specs.Int.{w128}
use Rattle.std.specs.Option.{IsSome}
use Rattle.std.specs.BTreeMap as tree
use Rattle.std.specs.BTreeMap.{is_at}
use Rattle.std.specs.Ordering.{int_cmp}
use Rattle.static_index.specs.Buckets.{ids_in}
use Rattle.static_index.proofs.BucketLemmas.{int_exact, kept_by}
use Rattle.static_index.proofs.IdLemmas.{others_stay, none_in}
use Rattle.static_index.proofs.numbered.take_numbered.Goals as goal

pub returns-else-len-eq0 : goal.returns-else-len-eq0
returns-else-len-eq0 c = λ other n apart has.
    let key = to_z w128 (of_z w128 c.args.number) in
    let was = c.in-Some.ensures.value in
    let step = (c.get_mut.follows.holds c.take_out.new.self).3 (subst IsSome was refl) in
    kept_by (λ x y. is_at (int_cmp x) y) int_exact ids_in (tree.get int_cmp c.args.buckets.now) (tree.get int_cmp (c.get_mut.follows.lender c.take_out.new.self)) key (Some c.take_out.new.self) step.0 n
    (λ there. others_stay _ _ c.take_out.ensures n apart (subst (λ o. Contains (ids_in o) n) (sym was) there)) other has

pub returns-then-len-eq0 : goal.returns-then-len-eq0
returns-then-len-eq0 c = λ other n apart has.
    let mid = c.get_mut.follows.lender c.take_out.new.self in
    let key = to_z w128 (of_z w128 c.args.number) in
    let was = c.in-Some.ensures.value in
    let step = (c.get_mut.follows.holds c.take_out.new.self).3 (subst IsSome was refl) in
    let left = kept_by (λ x y. is_at (int_cmp x) y) int_exact ids_in (tree.get int_cmp c.args.buckets.now) (tree.get int_cmp mid) key (Some c.take_out.new.self) step.0 n
    (λ there. others_stay _ _ c.take_out.ensures n apart (subst (λ o. Contains (ids_in o) n) (sym was) there)) other has in
    kept_by (λ x y. is_at (int_cmp x) y) int_exact ids_in (tree.get int_cmp mid) (tree.get int_cmp c.remove.new.self) key None c.remove.ensures.updates.0 n
    (λ there. absurd (none_in c.take_out.new.self n (sym c.len.ensures ∙ c.if-len-eq0.true) (subst (λ o. Contains (ids_in o) n) step.1 there))) other left
