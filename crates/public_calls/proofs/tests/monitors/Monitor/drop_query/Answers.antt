use Rattle.std.proofs.Common.{◌≡◌, None, rules}
use Rattle.public_calls.proofs.MonitorLemmas.{left, may_be_removed}
use Rattle.public_calls.proofs.tests.monitors.Monitor.drop_query.Goals as goal

-- the ends that the catalogue gave out may leave the engine
pub take_out-requires-clause-may : goal.take_out-requires-clause-may
take_out-requires-clause-may g c =
    let shut : c.self.inside.engine.time ≡ None = search rules in
    may_be_removed c.self.inside.catalogue c.self.inside.engine c.self.invariant shut c.drop_query.new.self c.queries-queries.ensures.stands c.args.name.now c.in_ok-dropped.dropped c.in_ok-dropped.ensures.ok

-- the engine stands for the other queries
pub invariant_of-self-2 : goal.invariant_of-self-2
invariant_of-self-2 g c =
    let shut : c.self.inside.engine.time ≡ None = search rules in
    left c.self.inside.catalogue c.self.inside.engine c.self.invariant shut c.drop_query.new.self c.queries-queries.ensures.stands c.args.name.now c.in_ok-dropped.dropped c.in_ok-dropped.ensures.ok c.take_out.new.engine c.take_out.ensures
