use Rattle.std.proofs.Common.{◌≡◌, take}
use Rattle.std.specs.Hash as fed
use Rattle.std.specs.List.{fold}
use Rattle.scalar_expr.specs.Hashes.{with_scalar, with_writes}
use Rattle.scalar_expr.specs.Views.{sc_of}
use Rattle.scalar_expr.proofs.projection.Map.add_to.Given as goal

-- the scalars so far are in the hash
abbrev pub invariant-loop-scalar : goal.invariant-loop-scalar
invariant-loop-scalar l = l.hasher ≡ fold (λ hasher scalar. with_scalar hasher (sc_of scalar)) (with_writes l.fn.hasher (fed.usize l.self.width)) (take l.scalar-index l.scalar-items)
