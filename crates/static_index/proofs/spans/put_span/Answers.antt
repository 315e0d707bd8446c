use Rattle.std.proofs.Common.{◌≡◌, ◌∙◌, refl, sym, subst, Some, None, Contains, arith, to_z, of_z}
use Rattle.std.specs.Option.{IsSome}
use Rattle.std.specs.BTreeMap.{get, is_at}
use Rattle.std.specs.Ordering.{nat_cmp}
use Rattle.std.proofs.lemmas.Result.{on_ok_weaker}
use Rattle.std.specs.Int.{w128}
use Rattle.std.proofs.lemmas.Int.{to_z-of_z}
use Rattle.static_index.specs.Buckets.{numbered_ids}
use Rattle.static_index.specs.Spans.{low_ids}
use Rattle.static_index.proofs.BucketLemmas.{kept_by, nat_exact}
use Rattle.static_index.proofs.IdLemmas.{none_of_nil}
use Rattle.static_index.proofs.spans.put_span.Goals as goal

pub returns-in-Some-clause-kept : goal.returns-in-Some-clause-kept
returns-in-Some-clause-kept c = λ other n has.
    let old = c.args.spans.now in
    let new = c.get_mut.follows.lender c.put_numbered.new.buckets in
    let was = c.in-Some.ensures.value in
    let step = (c.get_mut.follows.holds c.put_numbered.new.buckets).3 (subst IsSome was refl) in
    kept_by (λ x y. is_at (nat_cmp x) y) nat_exact (λ o. low_ids o other.low) (get nat_cmp old) (get nat_cmp new) c.args.span.reach (Some c.put_numbered.new.buckets) step.0 n
    (λ there. c.put_numbered.ensures.kept other.low n (subst (λ o. Contains (low_ids o other.low) n) (sym was) there)) other.reach has

pub returns-in-Some-clause-ok : goal.returns-in-Some-clause-ok
returns-in-Some-clause-ok c =
    let step = (c.get_mut.follows.holds c.put_numbered.new.buckets).3 (subst IsSome c.in-Some.ensures.value refl) in
    let exact : to_z w128 (of_z w128 c.args.span.low) ≡ c.args.span.low = grind (arith, to_z-of_z) in
    on_ok_weaker c.put_numbered.result
    (λ has. subst (λ o. Contains (low_ids o c.args.span.low) c.args.id) (sym step.1) (subst (λ low. Contains (numbered_ids c.put_numbered.new.buckets low) c.args.id) exact has))
    c.put_numbered.ensures.ok

pub returns-clause-kept : goal.returns-clause-kept
returns-clause-kept c = λ other n has.
    let mid = c.get_mut.follows.lender-at-none in
    let same = c.get_mut.follows.holds-at-none in
    let none : get nat_cmp mid c.args.span.reach ≡ None = (λ i. get nat_cmp (same i) c.args.span.reach) ∙ sym c.in_default.ensures.value in
    kept_by (λ x y. is_at (nat_cmp x) y) nat_exact (λ o. low_ids o other.low) (get nat_cmp mid) (get nat_cmp c.insert.new.self) c.args.span.reach (Some c.put_numbered-2.new.buckets) c.in_ok-insert.ensures.updates.0 n
    (λ there. absurd (none_of_nil n (subst (λ o. Contains (low_ids o other.low) n) none there))) other.reach
    (subst (λ m. Contains (low_ids (get nat_cmp m other.reach) other.low) n) (sym same) has)
