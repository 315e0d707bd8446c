use Rattle.std.proofs.Common.{sym, subst}
use Rattle.std.specs.declared.ops.Bound.TheVariants.{Included, Unbounded}
use Rattle.std.proofs.lemmas.Result.{on_ok_weaker}
use Rattle.event_types.specs.declared.comparison.Cmp.TheVariants.{Le}
use Rattle.event_types.specs.declared.value.Value.TheVariants.{Int}
use Rattle.static_index.specs.Limits.{FindsOnlyReached, FindsReached}
use Rattle.static_index.proofs.LimitLemmas.{numbers_found, numbers_only, others_found, others_only, reached_above}
use Rattle.static_index.proofs.RangeLemmas.{reached_from_below}
use Rattle.static_index.proofs.limits.Limits.collect_from.Goals as goal

pub returns-in-Int-clause-found : goal.returns-in-Int-clause-found
returns-in-Int-clause-found c =
    let limits = c.args.self.now in
    on_ok_weaker c.collect_between.result (λ e. subst (λ v. FindsReached Le v limits c.collect_between.new.found) (sym c.in-Int.is)
    (numbers_found Le (Included c.in-Int.least) Unbounded c.in-Int.least limits c.args.found.now c.collect_between.new.found e (λ y. reached_from_below (Int c.in-Int.least) (Int y)))) c.collect_between.ensures

pub returns-in-Int-clause-only : goal.returns-in-Int-clause-only
returns-in-Int-clause-only c =
    let limits = c.args.self.now in
    on_ok_weaker c.collect_between.result (λ e. subst (λ v. FindsOnlyReached Le v limits c.args.found.now c.collect_between.new.found) (sym c.in-Int.is)
    (numbers_only Le (Included c.in-Int.least) Unbounded c.in-Int.least limits c.args.found.now c.collect_between.new.found e (reached_above c.in-Int.least))) c.collect_between.ensures

-- the value is no number
pub returns-in_default : goal.returns-in_default
returns-in_default c = record {
  kept = c.collect_higher.ensures.kept;
  found = on_ok_weaker c.collect_higher.result (λ found. others_found Le c.args.value.now c.args.self.now c.collect_higher.new.found c.in_default.not-Int found) c.collect_higher.ensures.found;
  only = on_ok_weaker c.collect_higher.result (λ only. others_only Le c.args.value.now c.args.self.now c.args.found.now c.collect_higher.new.found only) c.collect_higher.ensures.only;
}
