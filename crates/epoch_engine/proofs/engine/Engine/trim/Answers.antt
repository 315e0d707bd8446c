use Rattle.std.proofs.Common.{◌+◌, subst}
use Rattle.automaton.specs.States.{Net}
use Rattle.stream_readers.proofs.KeyTableLemmas.{tidied_same}
use Rattle.epoch_draft.proofs.StayLemmas.{led_stay}
use Rattle.epoch_draft.proofs.WatchLemmas.{watches_all}
use Rattle.epoch_draft.specs.Purging.{AreAllPurged}
use Rattle.epoch_engine.specs.EngineView.{EngineView}
use Rattle.epoch_engine.specs.Trims.{Trims}
use Rattle.epoch_engine.proofs.EngineLemmas.{view_of}
use Rattle.epoch_engine.proofs.PurgedLemmas.{purged_running, trims_view, with_stores}
use Rattle.epoch_engine.proofs.engine.Engine.trim.Goals as goal

-- the stores are typed as before
pub invariant_of-self : goal.invariant_of-self
invariant_of-self c =
    let e = c.self.inside in
    let purged = c.purge_all.new.stores in record {
      fits = c.self.invariant.fits;
      running =
          purged_running (c.in-Some.time + 1) e.plan e.holdings.stores purged e.epoch c.self.invariant.running
          (subst (λ (net : Net). AreAllPurged net (c.in-Some.time + 1) e.holdings.stores purged) c.network.ensures.value c.purge_all.ensures);
      led = led_stay e.plan.merged e.holdings.keys e.holdings.keys e.holdings.stores purged c.self.invariant.led c.purge_all.ensures.stay (tidied_same purged e.holdings.keys);
      watches = watches_all (c.in-Some.time + 1) c.network.result.now e.holdings.deadlines e.holdings.stores purged c.purge_all.ensures c.self.invariant.watches;
      still = c.self.invariant.still;
    }

-- each was purged at the last closed time
pub returns-in-Some : goal.returns-in-Some
returns-in-Some c =
    let e = c.self.inside in
    let purged = c.purge_all.new.stores in
    let time = c.in-Some.time in
    let old : EngineView = view_of e.plan e.holdings.stores e.epoch e.closed_time in
    subst (λ (v : EngineView). Trims v (with_stores old purged)) c.self.view_is
    (trims_view old time e.holdings.stores purged c.in-Some.is c.self.invariant.running.can_draw.typed (subst (λ (net : Net). AreAllPurged net (time + 1) e.holdings.stores purged) c.network.ensures.value c.purge_all.ensures))
