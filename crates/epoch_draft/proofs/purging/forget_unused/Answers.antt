use Rattle.std.proofs.Common.{sym, subst}
use Rattle.std.specs.Prelude.{Option, Some}
use Rattle.binding_index.specs.Stores.{instances_of, key_of, ready_of}
use Rattle.binding_index.specs.declared.store.Store.{Store}
use Rattle.epoch_draft.specs.Led.{StaysReady}
use Rattle.epoch_draft.proofs.PurgeLemmas.{kept_used}
use Rattle.epoch_draft.proofs.StayLemmas.{forget_stays}
use Rattle.epoch_draft.proofs.purging.forget_unused.Goals as goal

pub returns-in-Some-clause-used : goal.returns-in-Some-clause-used
returns-in-Some-clause-used c =
    kept_used (key_of c.in-Some.store) (key_of c.forget_unused.new.self) (instances_of c.forget_unused.new.self) (ready_of c.in-Some.store) (ready_of c.forget_unused.new.self) c.forget_unused.ensures.same_key c.forget_unused.ensures.ready

-- the keys of the instances are ready still
pub returns-in-Some-clause-stays : goal.returns-in-Some-clause-stays
returns-in-Some-clause-stays c =
    subst (λ (o : Option Store). StaysReady o (Some c.forget_unused.new.self)) (sym c.in-Some.is) (forget_stays c.in-Some.store c.forget_unused.new.self c.forget_unused.ensures.same_instances c.forget_unused.ensures.ready c.forget_unused.ensures.same_key)
