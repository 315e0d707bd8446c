use Rattle.std.proofs.Common.{◌∙◌, ◌+◌, List, Some, ap, subst}
use Rattle.event_types.specs.declared.value.Value.{Value}
use Rattle.semantics.specs.Scalars.{Pr}
use Rattle.instances.specs.Bounds.{AreAliveUntil}
use Rattle.instances.specs.Keys.{KeepsUsedKeys, Key}
use Rattle.instances.proofs.BoundLemmas.{left_until}
use Rattle.binding_index.specs.Keyed.{Keyed}
use Rattle.binding_index.proofs.keyed_store.KeyedStoreWaiting.purge.Goals as goal

pub returns-clause-until : goal.returns-clause-until
returns-clause-until c =
    subst (λ (ps : List Pr). AreAliveUntil c.purged_until.result ps c.expire-oldest.new.self.instances) c.cut.ensures.same_condition
    (left_until c.purged_until.result (c.args.now + 1) c.expire-oldest.result c.self.inside.condition c.cut.new.self.condition c.cut.new.self.instances c.expire-oldest.new.self.instances (ap (λ (s : Keyed). s.condition) c.self.view_is ∙ c.expire-oldest.ensures.same_condition)
    c.expire-oldest.ensures.alive c.expire-oldest.ensures.oldest c.purged_until.ensures.until)

pub returns-clause-ready : goal.returns-clause-ready
returns-clause-ready c =
    subst (λ (key : Key). KeepsUsedKeys (Some key) c.expire-oldest.new.self.instances c.args.self.now.ready c.expire-oldest.new.self.ready) c.cut.ensures.same_key
    (subst (λ (ready : List Value). KeepsUsedKeys (Some c.cut.new.self.key) c.expire-oldest.new.self.instances ready c.expire-oldest.new.self.ready) c.cut.ensures.same_ready c.expire-oldest.ensures.ready)
