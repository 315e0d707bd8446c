use Rattle.binding_index.proofs.store.StoreWaiting.purge.Goals as goal

pub returns-in-Keyed-clause-ready : goal.returns-in-Keyed-clause-ready
returns-in-Keyed-clause-ready c = rw c.in-Keyed.is c.purge-in-Keyed.ensures.ready
