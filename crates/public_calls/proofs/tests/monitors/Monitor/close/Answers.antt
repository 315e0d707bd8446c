use Rattle.public_calls.proofs.MonitorLemmas.{closing}
use Rattle.public_calls.proofs.tests.monitors.Monitor.close.Goals as goal

pub invariant_of-self : goal.invariant_of-self
invariant_of-self g c = closing c.self.inside.catalogue c.self.inside.engine c.self.invariant c.close.new.engine c.close.result c.close.ensures.closed c.close.ensures.kept c.close.ensures.plan
