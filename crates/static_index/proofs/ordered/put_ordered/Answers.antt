use Rattle.std.proofs.Common.{◌≡◌, ◌∙◌, refl, sym, subst, Some, None, Contains}
use Rattle.std.specs.Option.{IsSome}
use Rattle.std.specs.BTreeMap as tree
use Rattle.std.specs.BTreeMap.{is_at}
use Rattle.static_index.specs.Buckets.{ids_in, ordered}
use Rattle.static_index.proofs.BucketLemmas.{ordered_exact, kept_by}
use Rattle.static_index.proofs.IdLemmas.{none_of_nil}
use Rattle.static_index.proofs.ordered.put_ordered.Goals as goal

pub returns-in-Some-clause-kept : goal.returns-in-Some-clause-kept
returns-in-Some-clause-kept c = λ other n has.
    let was = c.in-Some.ensures.value in
    let step = (c.get_mut.follows.holds c.put.new.self).3 (subst IsSome was refl) in
    kept_by (λ x y. is_at (ordered x) y) ordered_exact ids_in (tree.get ordered c.args.buckets.now) (tree.get ordered (c.get_mut.follows.lender c.put.new.self)) c.args.lit.now (Some c.put.new.self) step.0 n
    (λ there. c.put.ensures.kept n (subst (λ o. Contains (ids_in o) n) (sym was) there)) other has

pub returns-clause-kept : goal.returns-clause-kept
returns-clause-kept c = λ other n has.
    let mid = c.get_mut.follows.lender-at-none in
    let same = c.get_mut.follows.holds-at-none in
    let none : tree.get ordered mid c.in_ok-key.key ≡ None = (λ i. tree.get ordered (same i) (c.in_ok-key.ensures i)) ∙ sym c.in_default.ensures.value in
    kept_by (λ x y. is_at (ordered x) y) ordered_exact ids_in (tree.get ordered mid) (tree.get ordered c.insert.new.self) c.in_ok-key.key (Some c.put-2.new.self) c.in_ok-insert.ensures.updates.0 n
    (λ there. absurd (none_of_nil n (subst (λ o. Contains (ids_in o) n) none there))) other (subst (λ m. Contains (ids_in (tree.get ordered m other)) n) (sym same) has)
