use Rattle.std.proofs.Common.{◌∙◌, sym, ap, refl, subst, length}
use Rattle.automaton.specs.NetworkLines.{NetworkFits}
use Rattle.automaton.specs.States.{Net}
use Rattle.automaton.specs.declared.layout.Layout.{Layout}
use Rattle.prefix_merge.specs.Merging.{IsMerged}
use Rattle.epoch_draft.specs.Stores.{AreNewStores}
use Rattle.epoch_draft.specs.Led.{AreLed}
use Rattle.epoch_engine.proofs.EngineLemmas.{made_empty, made_running}
use Rattle.epoch_engine.proofs.engine.Engine.make.Goals as goal

-- the parts fit
pub invariant_of-result : goal.invariant_of-result
invariant_of-result c =
    let plan = c.in_ok-plan.plan in
    let holdings = c.in_ok-holdings.holdings in
    let epoch = c.in_ok-epoch.epoch in
    let network = c.network.ensures.value in
    let fits : NetworkFits plan.merged plan.layout = subst (λ (l : Layout). NetworkFits plan.merged l) (sym c.in_ok-plan.ensures.layout) (subst (λ (net : Net). NetworkFits net c.args.layout) (sym c.in_ok-plan.ensures.merged) c.requires) in record {
      fits = fits;
      running =
          made_running plan holdings.stores epoch fits c.make-4.ensures.network c.in_ok-plan.ensures.is (subst (λ (net : Net). AreNewStores net holdings.stores) network c.in_ok-holdings.ensures.stores)
          (c.in_ok-epoch.ensures.as_many ∙ c.len.ensures) c.in_ok-epoch.ensures.empty c.in_ok-epoch.ensures.touched;
      led = subst (λ (net : Net). AreLed net holdings.keys holdings.stores) network c.in_ok-holdings.ensures.led;
      watches = c.in_ok-holdings.ensures.watches;
      still = c.in_ok-room.ensures.still;
    }

-- nothing was heard
pub returns : goal.returns
returns c = record {
  network = c.in_ok-plan.ensures.merged;
  merged = subst IsMerged c.in_ok-plan.ensures.merged c.network.ensures.merged;
  same_layout = c.in_ok-plan.ensures.layout;
  stores = made_empty c.network.result.now c.in_ok-holdings.holdings.stores c.in_ok-holdings.ensures.stores;
  opened = c.in_ok-epoch.ensures.empty;
  as_many = c.in_ok-epoch.ensures.as_many ∙ c.len.ensures ∙ ap (λ (l : Layout). length l.kinds) c.in_ok-plan.ensures.layout;
  none_open = c.in_ok-epoch.ensures.time;
  none_closed = refl;
}
