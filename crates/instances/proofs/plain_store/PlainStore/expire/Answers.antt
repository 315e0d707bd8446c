use Rattle.std.proofs.Common.{◌∙◌, ◌+◌, sym}
use Rattle.std.proofs.lemmas.Bool.{le-leb}
use Rattle.instances.proofs.BoundLemmas.{all_alive}
use Rattle.instances.proofs.plain_store.PlainStore.expire.Goals as goal

pub returns-clause-alive : goal.returns-clause-alive
returns-clause-alive c =
    rw (← c.self.view_is) (sym (all_alive (c.args.now + 1) c.self.inside.oldest c.self.inside.condition c.self.inside.chain c.self.invariant
    (c.earliest_alive.ensures c.self.inside.oldest ∙ le-leb c.earliest_alive.result c.self.inside.oldest c.if-self-earliest_alive.false)))
