use Rattle.binding_index.proofs.store.StoreWaiting.ready.Goals as goal

pub returns-in-Keyed-clause-more_ready : goal.returns-in-Keyed-clause-more_ready
returns-in-Keyed-clause-more_ready c = rw c.in-Keyed.is c.ready-in-Keyed.ensures.more_ready

pub returns-in-Keyed-clause-only : goal.returns-in-Keyed-clause-only
returns-in-Keyed-clause-only c = rw c.in-Keyed.is c.ready-in-Keyed.ensures.only
