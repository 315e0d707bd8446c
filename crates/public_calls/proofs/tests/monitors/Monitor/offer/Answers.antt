use Rattle.std.proofs.Common.{◌<◌, rules, subst, sym}
use Rattle.public_calls.proofs.MonitorLemmas.{Stands, offered}
use Rattle.public_calls.proofs.tests.monitors.Monitor.offer.Goals as goal

pub invariant_of-self : goal.invariant_of-self
invariant_of-self g c =
    let declared : c.args.stream < c.self.inside.catalogue.declared = search rules in
    subst (Stands c.self.inside.catalogue) (sym c.in-Ok.ensures.ok)
    (offered c.self.inside.catalogue c.self.inside.engine c.self.invariant c.args.stream c.args.event declared c.check_time.ensures.sound c.check_event.ensures c.check_time.ensures.not_ahead c.in-Ok.ensures.answer)
