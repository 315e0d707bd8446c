use Rattle.std.proofs.Common.{◌≡◌, take}
use Rattle.std.specs.List.{fold}
use Rattle.scalar_expr.specs.Hashes.{with_pred}
use Rattle.scalar_expr.specs.Views.{pr_of}
use Rattle.scalar_expr.proofs.conjunction.Conj.add_to.Given as goal

-- the parts so far are in the hash
abbrev pub invariant-loop-part : goal.invariant-loop-part
invariant-loop-part l = l.hasher ≡ fold (λ hasher part. with_pred hasher (pr_of part)) l.fn.hasher (take l.part-index l.part-items)
