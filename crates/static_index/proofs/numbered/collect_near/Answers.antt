use Rattle.std.proofs.Common.{◌≡◌, ◌∙◌, ◌++◌, ap, sym, subst, Contains, arith, to_z, of_z}
use Rattle.std.specs.Int.{w128}
use Rattle.std.proofs.lemmas.Int.{to_z-of_z}
use Rattle.std.specs.declared.ops.Bound.TheVariants.{Included, Unbounded}
use Rattle.std.proofs.lemmas.List.Elements.{Contains-append_right}
use Rattle.std.proofs.lemmas.Result.{on_ok_weaker}
use Rattle.static_index.specs.Buckets.{ids_between}
use Rattle.static_index.specs.Spans.{IsNear}
use Rattle.static_index.proofs.RangeLemmas.{between, near_number, up_to_near}
use Rattle.static_index.proofs.numbered.collect_near.Goals as goal

-- no number lies the reach below
pub returns-in_default-below-clause-found : goal.returns-in_default-below-clause-found
returns-in_default-below-clause-found c =
    on_ok_weaker c.collect_between.result (λ e. λ low n near has.
    let reached = up_to_near low c.args.reach c.in-Int.number (subst (λ v. IsNear low c.args.reach v) c.in-Int.is near) in
    let among = between Unbounded (Included c.in-Int.number) low n c.args.buckets.now.entries reached has in
    subst (λ ids. Contains ids n) (sym e) (Contains-append_right c.args.found.now _ n among)) c.collect_between.ensures

pub returns-clause-found : goal.returns-clause-found
returns-clause-found c =
    let first = c.in-Some.low in
    let exact : to_z w128 (of_z w128 first) ≡ first = grind (arith, to_z-of_z) in
    let buckets = c.args.buckets.now in
    on_ok_weaker c.collect_between-2.result (λ e. λ low n near has.
    let reached = near_number first low c.args.reach c.in-Int.number c.in-Some.ensures (subst (λ v. IsNear low c.args.reach v) c.in-Int.is near) in
    let among = between (Included first) (Included c.in-Int.number) low n buckets.entries reached has in
    let same = ap (λ low. c.args.found.now ++ ids_between (Included low) (Included c.in-Int.number) buckets) exact in
    subst (λ ids. Contains ids n) (sym (e ∙ same)) (Contains-append_right c.args.found.now _ n among)) c.collect_between-2.ensures
