use Rattle.std.proofs.Common.{subst, List}
use Rattle.std.specs.Prelude.{Option}
use Rattle.binding_index.specs.declared.store.Store.{Store}
use Rattle.stream_readers.specs.KeyTables.{AreTidied}
use Rattle.epoch_draft.proofs.StayLemmas.{led_stay}
use Rattle.epoch_engine.proofs.closing.settle_epoch.Goals as goal

-- keys lead as before where no more are ready
pub returns-clause-led : goal.returns-clause-led
returns-clause-led g c =
    let keys = c.args.holdings.now.keys in
    let after = c.settle.new.stores in
    led_stay c.args.plan.now.merged keys c.tidy.new.self c.args.holdings.now.stores after c.requires.led c.settle.ensures.stay
    (subst (λ (slots : List (Option Store)). AreTidied slots keys c.tidy.new.self) c.as_slice.ensures c.tidy.ensures)
