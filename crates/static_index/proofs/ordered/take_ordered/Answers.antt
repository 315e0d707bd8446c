use Rattle.std.proofs.Common.{◌∙◌, refl, sym, subst, Some, None, Contains}
use Rattle.std.specs.Option.{IsSome}
use Rattle.std.specs.BTreeMap as tree
use Rattle.std.specs.BTreeMap.{is_at}
use Rattle.static_index.specs.Buckets.{ids_in, ordered}
use Rattle.static_index.proofs.BucketLemmas.{ordered_exact, kept_by}
use Rattle.static_index.proofs.IdLemmas.{others_stay, none_in}
use Rattle.static_index.proofs.ordered.take_ordered.Goals as goal

pub returns-else-len-eq0 : goal.returns-else-len-eq0
returns-else-len-eq0 c = λ other n apart has.
    let was = c.in-Some.ensures.value in
    let step = (c.get_mut.follows.holds c.take_out.new.self).3 (subst IsSome was refl) in
    kept_by (λ x y. is_at (ordered x) y) ordered_exact ids_in (tree.get ordered c.args.buckets.now) (tree.get ordered (c.get_mut.follows.lender c.take_out.new.self)) c.args.lit.now (Some c.take_out.new.self) step.0 n
    (λ there. others_stay _ _ c.take_out.ensures n apart (subst (λ o. Contains (ids_in o) n) (sym was) there)) other has

pub returns-then-len-eq0 : goal.returns-then-len-eq0
returns-then-len-eq0 c = λ other n apart has.
    let mid = c.get_mut.follows.lender c.take_out.new.self in
    let was = c.in-Some.ensures.value in
    let step = (c.get_mut.follows.holds c.take_out.new.self).3 (subst IsSome was refl) in
    let left = kept_by (λ x y. is_at (ordered x) y) ordered_exact ids_in (tree.get ordered c.args.buckets.now) (tree.get ordered mid) c.args.lit.now (Some c.take_out.new.self) step.0 n
    (λ there. others_stay _ _ c.take_out.ensures n apart (subst (λ o. Contains (ids_in o) n) (sym was) there)) other has in
    kept_by (λ x y. is_at (ordered x) y) ordered_exact ids_in (tree.get ordered mid) (tree.get ordered c.remove.new.self) c.args.lit.now None c.remove.ensures.updates.0 n
    (λ there. absurd (none_in c.take_out.new.self n (sym c.len.ensures ∙ c.if-len-eq0.true) (subst (λ o. Contains (ids_in o) n) step.1 there))) other left
