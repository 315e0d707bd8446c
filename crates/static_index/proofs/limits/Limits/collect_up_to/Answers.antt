use Rattle.std.proofs.Common.{sym, subst}
use Rattle.std.specs.declared.ops.Bound.TheVariants.{Included, Unbounded}
use Rattle.std.proofs.lemmas.Result.{on_ok_weaker}
use Rattle.event_types.specs.declared.comparison.Cmp.TheVariants.{Ge}
use Rattle.event_types.specs.declared.value.Value.TheVariants.{Int}
use Rattle.static_index.specs.Limits.{FindsOnlyReached, FindsReached}
use Rattle.static_index.proofs.LimitLemmas.{numbers_found, numbers_only, others_found, others_only, reached_below}
use Rattle.static_index.proofs.RangeLemmas.{reached_from_above}
use Rattle.static_index.proofs.limits.Limits.collect_up_to.Goals as goal

pub returns-in-Int-clause-found : goal.returns-in-Int-clause-found
returns-in-Int-clause-found c =
    let limits = c.args.self.now in
    on_ok_weaker c.collect_between.result (λ e. subst (λ v. FindsReached Ge v limits c.collect_between.new.found) (sym c.in-Int.is)
    (numbers_found Ge Unbounded (Included c.in-Int.most) c.in-Int.most limits c.args.found.now c.collect_between.new.found e (λ y. reached_from_above (Int c.in-Int.most) (Int y)))) c.collect_between.ensures

pub returns-in-Int-clause-only : goal.returns-in-Int-clause-only
returns-in-Int-clause-only c =
    let limits = c.args.self.now in
    on_ok_weaker c.collect_between.result (λ e. subst (λ v. FindsOnlyReached Ge v limits c.args.found.now c.collect_between.new.found) (sym c.in-Int.is)
    (numbers_only Ge Unbounded (Included c.in-Int.most) c.in-Int.most limits c.args.found.now c.collect_between.new.found e (reached_below c.in-Int.most))) c.collect_between.ensures

-- the value is no number
pub returns-in_default : goal.returns-in_default
returns-in_default c = record {
  kept = c.collect_lower.ensures.kept;
  found = on_ok_weaker c.collect_lower.result (λ found. others_found Ge c.args.value.now c.args.self.now c.collect_lower.new.found c.in_default.not-Int found) c.collect_lower.ensures.found;
  only = on_ok_weaker c.collect_lower.result (λ only. others_only Ge c.args.value.now c.args.self.now c.args.found.now c.collect_lower.new.found only) c.collect_lower.ensures.only;
}
