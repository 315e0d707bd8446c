use Rattle.std.proofs.Common.{◌≡◌, None, rules}
use Rattle.public_calls.proofs.MonitorLemmas.{came, latest, may_be_added}
use Rattle.public_calls.proofs.tests.monitors.Monitor.add.Goals as goal

-- no query was born later
pub add-requires : goal.add-requires
add-requires g c = latest c.self.inside.catalogue c.self.inside.engine c.self.invariant c.last_closed-since.result c.last_closed-since.ensures

-- the engine may be given what the catalogue told
pub bring-requires-clause-may : goal.bring-requires-clause-may
bring-requires-clause-may g c =
    let shut : c.self.inside.engine.time ≡ None = search rules in
    may_be_added c.self.inside.catalogue c.self.inside.engine c.self.invariant shut c.add.new.self c.queries-queries.ensures.stands c.args.text.now c.last_closed-since.result c.in_ok-added.added c.last_closed-since.ensures c.in_ok-added.ensures.ok

-- the engine stands for the query too
pub invariant_of-self-2 : goal.invariant_of-self-2
invariant_of-self-2 g c =
    let shut : c.self.inside.engine.time ≡ None = search rules in
    came c.self.inside.catalogue c.self.inside.engine c.self.invariant shut c.add.new.self c.queries-queries.ensures.stands c.args.text.now c.last_closed-since.result c.in_ok-added.added c.last_closed-since.ensures c.in_ok-added.ensures.ok c.bring.new.engine c.bring.ensures
