use Rattle.std.proofs.Common.{◌∙◌, sym, ap, subst, ◌+◌}
use Rattle.std.specs.Prelude.{List, Option, Some}
use Rattle.semantics.specs.Scalars.{Pr}
use Rattle.instances.specs.Bounds.{alive_instances}
use Rattle.binding_index.specs.declared.store.Store.{Store}
use Rattle.epoch_draft.specs.Led.{StaysReady}
use Rattle.epoch_draft.proofs.StayLemmas.{purge_stays}
use Rattle.binding_index.specs.Stores.{instances_of, key_of, ready_of}
use Rattle.epoch_draft.proofs.PurgeLemmas.{kept_used}
use Rattle.epoch_draft.proofs.purging.purge.Goals as goal

pub returns-in-Some-clause-used : goal.returns-in-Some-clause-used
returns-in-Some-clause-used c = kept_used (key_of c.in-Some.store) (key_of c.purge.new.self) (instances_of c.purge.new.self) (ready_of c.in-Some.store) (ready_of c.purge.new.self) c.purge.ensures.same_key c.purge.ensures.ready

-- the keys of the instances that are left are ready still
pub returns-in-Some-clause-stays : goal.returns-in-Some-clause-stays
returns-in-Some-clause-stays c =
    subst (λ (o : Option Store). StaysReady o (Some c.purge.new.self)) (sym c.in-Some.is) (purge_stays c.in-Some.store c.purge.new.self (c.args.time + 1) c.args.since c.purge.ensures.alive c.purge.ensures.ready c.purge.ensures.same_key)

-- they are alive until the store's deadline
pub returns-in-Some-clause-watched : goal.returns-in-Some-clause-watched
returns-in-Some-clause-watched c time early = ap (λ (ps : List Pr). alive_instances time ps (instances_of c.purge.new.self)) c.purge.ensures.same_condition ∙ c.purge.ensures.until time early
