use Rattle.public_calls.proofs.MonitorLemmas.{trimmed}
use Rattle.public_calls.proofs.tests.monitors.Monitor.trim.Goals as goal

pub invariant_of-self : goal.invariant_of-self
invariant_of-self c = trimmed c.self.inside.catalogue c.self.inside.engine c.self.invariant c.trim.new.self c.trim.ensures
