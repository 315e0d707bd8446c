use Rattle.std.proofs.Common.{◌∙◌, arith}
use Rattle.std.proofs.lemmas.Bool.{le-ltb, lt-ltb}
use Rattle.instances.proofs.BoundLemmas.{all_alive}
use Rattle.epoch_draft.proofs.OldestLemmas.{not_all}
use Rattle.epoch_draft.proofs.watching.deadline_of.Goals as goal

-- until the oldest start expires all are alive
pub returns-in-Some-clause-until : goal.returns-in-Some-clause-until
returns-in-Some-clause-until c time before =
    all_alive time c.in-Some.oldest c.args.condition.now c.args.beads.now c.in-Some.ensures.all (c.expires_at.ensures time (omega (arith, before, c.expires_at.type_inv)) ∙ lt-ltb time c.expires_at.result before)

-- and then the oldest is not
pub returns-in-Some-clause-needed : goal.returns-in-Some-clause-needed
returns-in-Some-clause-needed c before =
    not_all c.expires_at.result c.in-Some.oldest c.args.condition.now c.args.beads.now c.in-Some.ensures.is_one (c.expires_at.ensures c.expires_at.result (omega (arith, before)) ∙ le-ltb c.expires_at.result c.expires_at.result (omega arith))
