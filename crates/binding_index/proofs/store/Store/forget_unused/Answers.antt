use Rattle.binding_index.proofs.store.Store.forget_unused.Goals as goal

pub returns-in-Keyed-clause-ready : goal.returns-in-Keyed-clause-ready
returns-in-Keyed-clause-ready c = rw c.in-Keyed.is c.forget_unused.ensures.ready
