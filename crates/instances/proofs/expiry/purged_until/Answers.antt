use Rattle.std.proofs.Common.{◌+◌, arith}
use Rattle.instances.proofs.BoundLemmas.{alive_both}
use Rattle.instances.proofs.expiry.purged_until.Goals as goal

pub returns-clause-until : goal.returns-clause-until
returns-clause-until c instances =
    alive_both c.max.result c.expires_at.result (c.args.now + 1) c.args.oldest c.args.condition.now instances c.expires_at.ensures (omega (arith, c.expires_at.type_inv)) (omega (arith, c.max.ensures))
