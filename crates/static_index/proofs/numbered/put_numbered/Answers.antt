use Rattle.std.proofs.Common.{◌≡◌, ◌∙◌, ap, refl, sym, subst, Some, None, Contains, arith, to_z, of_z}
use Rattle.std.specs.Int.{w128}
use Rattle.std.specs.Option.{IsSome}
use Rattle.std.specs.BTreeMap as tree
use Rattle.std.specs.BTreeMap.{is_at}
use Rattle.std.specs.Ordering.{int_cmp}
use Rattle.std.proofs.lemmas.Int.{to_z-of_z}
use Rattle.std.proofs.lemmas.Result.{on_ok_weaker}
use Rattle.static_index.specs.Buckets.{ids_in}
use Rattle.static_index.proofs.BucketLemmas.{int_exact, kept_by}
use Rattle.static_index.proofs.IdLemmas.{none_of_nil}
use Rattle.static_index.proofs.numbered.put_numbered.Goals as goal

pub returns-in-Some-clause-ok : goal.returns-in-Some-clause-ok
returns-in-Some-clause-ok c =
    let new = c.get_mut.follows.lender c.put.new.self in
    let step = (c.get_mut.follows.holds c.put.new.self).3 (subst IsSome c.in-Some.ensures.value refl) in
    let exact : to_z w128 (of_z w128 c.args.number) ≡ c.args.number = grind (arith, to_z-of_z) in
    on_ok_weaker c.put.result
    (λ has. subst (λ o. Contains (ids_in o) c.args.id) (sym step.1 ∙ ap (tree.get int_cmp new) exact) has)
    c.put.ensures.ok

pub returns-in-Some-clause-kept : goal.returns-in-Some-clause-kept
returns-in-Some-clause-kept c = λ other n has.
    let key = to_z w128 (of_z w128 c.args.number) in
    let was = c.in-Some.ensures.value in
    let step = (c.get_mut.follows.holds c.put.new.self).3 (subst IsSome was refl) in
    kept_by (λ x y. is_at (int_cmp x) y) int_exact ids_in (tree.get int_cmp c.args.buckets.now) (tree.get int_cmp (c.get_mut.follows.lender c.put.new.self)) key (Some c.put.new.self) step.0 n
    (λ there. c.put.ensures.kept n (subst (λ o. Contains (ids_in o) n) (sym was) there)) other has

pub returns-clause-kept : goal.returns-clause-kept
returns-clause-kept c = λ other n has.
    let mid = c.get_mut.follows.lender-at-none in
    let same = c.get_mut.follows.holds-at-none in
    let key = to_z w128 (of_z w128 c.args.number) in
    let none : tree.get int_cmp mid key ≡ None = (λ i. tree.get int_cmp (same i) key) ∙ sym c.in_default.ensures.value in
    kept_by (λ x y. is_at (int_cmp x) y) int_exact ids_in (tree.get int_cmp mid) (tree.get int_cmp c.insert.new.self) key (Some c.put-2.new.self) c.in_ok-insert.ensures.updates.0 n
    (λ there. absurd (none_of_nil n (subst (λ o. Contains (ids_in o) n) none there))) other (subst (λ m. Contains (ids_in (tree.get int_cmp m other)) n) (sym same) has)
