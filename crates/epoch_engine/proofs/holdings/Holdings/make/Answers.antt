use Rattle.std.proofs.Common.{◌∙◌, ap, sym, subst, length}
use Rattle.std.proofs.lemmas.List.{length-replicate}
use Rattle.stream_readers.specs.KeyTables.{KeyTable}
use Rattle.epoch_draft.specs.Led.{AreLed}
use Rattle.epoch_draft.proofs.StayLemmas.{led_new}
use Rattle.epoch_draft.proofs.WatchLemmas.{watches_new}
use Rattle.epoch_engine.proofs.holdings.Holdings.make.Goals as goal

-- no key leads anywhere yet
pub returns-clause-led : goal.returns-clause-led
returns-clause-led c = subst (λ (table : KeyTable). AreLed c.args.network.now table c.in_ok-stores.stores) (sym c.new.ensures) (led_new c.args.network.now c.in_ok-stores.stores c.in_ok-stores.ensures)

-- and nothing expires
pub returns-clause-watches : goal.returns-clause-watches
returns-clause-watches c =
    watches_new c.args.network.now c.in_ok-deadlines.deadlines c.in_ok-stores.stores c.in_ok-stores.ensures (ap length c.in_ok-deadlines.ensures ∙ length-replicate _ _ ∙ c.places.ensures.value)
