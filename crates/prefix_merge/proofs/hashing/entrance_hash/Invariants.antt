use Rattle.std.proofs.Common.{◌≡◌, take}
use Rattle.std.specs.Hash as fed
use Rattle.std.specs.Hash.DefaultHasher as sip
use Rattle.std.specs.List.{fold}
use Rattle.scalar_expr.specs.Hashes.{with_writes}
use Rattle.prefix_merge.specs.Buckets.{with_stage}
use Rattle.prefix_merge.proofs.hashing.entrance_hash.Given as goal

-- the stages so far are in the hash
abbrev pub invariant-loop-stage : goal.invariant-loop-stage
invariant-loop-stage l = l.hasher ≡ fold with_stage (with_writes sip.initial (fed.usize l.before)) (take l.stage-index l.step)
