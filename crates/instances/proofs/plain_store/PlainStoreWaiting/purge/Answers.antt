use Rattle.std.proofs.Common.{◌∙◌, ◌+◌, List, ap, subst}
use Rattle.semantics.specs.Scalars.{Pr}
use Rattle.instances.proofs.BoundLemmas.{left_until}
use Rattle.instances.specs.Bounds.{AreAliveUntil}
use Rattle.instances.specs.Plain.{Plain}
use Rattle.instances.proofs.plain_store.PlainStoreWaiting.purge.Goals as goal

pub returns-clause-until : goal.returns-clause-until
returns-clause-until c =
    subst (λ (ps : List Pr). AreAliveUntil c.purged_until.result ps c.expire-oldest.new.self.instances) c.cut.ensures.same_condition
    (left_until c.purged_until.result (c.args.now + 1) c.expire-oldest.result c.self.inside.condition c.cut.new.self.condition c.cut.new.self.instances c.expire-oldest.new.self.instances (ap (λ (s : Plain). s.condition) c.self.view_is ∙ c.expire-oldest.ensures.same_condition)
    c.expire-oldest.ensures.alive c.expire-oldest.ensures.oldest c.purged_until.ensures.until)
