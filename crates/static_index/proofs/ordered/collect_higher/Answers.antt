use Rattle.std.proofs.Common.{◌⊎◌, inl, inr, sym, subst, Contains}
use Rattle.std.specs.declared.ops.Bound.TheVariants.{Included, Unbounded}
use Rattle.std.proofs.lemmas.List.Elements.{Contains-append_cases, Contains-append_right}
use Rattle.std.proofs.lemmas.Result.{on_ok_weaker}
use Rattle.event_types.specs.declared.comparison.Cmp.TheVariants.{Le}
use Rattle.static_index.specs.Buckets.{IsAmongMet, met_ids_between}
use Rattle.static_index.proofs.RangeLemmas.{met_between, of_met, reached_from_below}
use Rattle.static_index.proofs.ordered.collect_higher.Goals as goal

pub returns-clause-found : goal.returns-clause-found
returns-clause-found c =
    let buckets = c.args.buckets.now in
    let value = c.args.value.now in
    on_ok_weaker c.collect_met.result (λ e. λ lit n met has.
    let among = met_between (Included value) Unbounded Le value n lit buckets.entries (reached_from_below value lit met) met has in
    subst (λ ids. Contains ids n) (sym e) (Contains-append_right c.args.found.now _ n among)) c.collect_met.ensures

-- what else is found is reached
pub returns-clause-only : goal.returns-clause-only
returns-clause-only c =
    let buckets = c.args.buckets.now in
    let value = c.args.value.now in
    let old = c.args.found.now in
    on_ok_weaker c.collect_met.result (λ e. λ n has.
    elim (Contains-append_cases old (met_ids_between Le value (Included value) Unbounded buckets) n (subst (λ ids. Contains ids n) e has)) as (λ _. Contains old n ⊎ IsAmongMet Le value buckets.entries n) [
      | inl before ↦ inl before
      | inr among ↦ inr (of_met (Included value) Unbounded Le value n buckets.entries among)
    ]) c.collect_met.ensures
