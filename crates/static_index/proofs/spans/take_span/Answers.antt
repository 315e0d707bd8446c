use Rattle.std.proofs.Common.{refl, sym, subst, Some, None, Contains}
use Rattle.std.specs.Option.{IsSome}
use Rattle.std.specs.BTreeMap.{get, is_at}
use Rattle.std.specs.Ordering.{nat_cmp}
use Rattle.static_index.specs.Spans.{low_ids}
use Rattle.static_index.proofs.BucketLemmas.{kept_by, nat_exact}
use Rattle.static_index.proofs.SpanLemmas.{none_low}
use Rattle.static_index.proofs.spans.take_span.Goals as goal

pub returns-else-is_empty : goal.returns-else-is_empty
returns-else-is_empty c = λ other n apart has.
    let was = c.in-Some.ensures.value in
    let step = (c.get_mut.follows.holds c.take_numbered.new.buckets).3 (subst IsSome was refl) in
    kept_by (λ x y. is_at (nat_cmp x) y) nat_exact (λ o. low_ids o other.low) (get nat_cmp c.args.spans.now) (get nat_cmp (c.get_mut.follows.lender c.take_numbered.new.buckets)) c.args.span.reach (Some c.take_numbered.new.buckets) step.0 n
    (λ there. c.take_numbered.ensures other.low n apart (subst (λ o. Contains (low_ids o other.low) n) (sym was) there)) other.reach has

pub returns-then-is_empty : goal.returns-then-is_empty
returns-then-is_empty c = λ other n apart has.
    let mid = c.get_mut.follows.lender c.take_numbered.new.buckets in
    let was = c.in-Some.ensures.value in
    let step = (c.get_mut.follows.holds c.take_numbered.new.buckets).3 (subst IsSome was refl) in
    let left = kept_by (λ x y. is_at (nat_cmp x) y) nat_exact (λ o. low_ids o other.low) (get nat_cmp c.args.spans.now) (get nat_cmp mid) c.args.span.reach (Some c.take_numbered.new.buckets) step.0 n
    (λ there. c.take_numbered.ensures other.low n apart (subst (λ o. Contains (low_ids o other.low) n) (sym was) there)) other.reach has in
    kept_by (λ x y. is_at (nat_cmp x) y) nat_exact (λ o. low_ids o other.low) (get nat_cmp mid) (get nat_cmp c.remove.new.self) c.args.span.reach None c.remove.ensures.updates.0 n
    (λ there. absurd (none_low c.take_numbered.new.buckets other.low n (c.is_empty.ensures.0 c.if-is_empty.true) (subst (λ o. Contains (low_ids o other.low) n) step.1 there))) other.reach left
