use Rattle.std.proofs.Common.{◌≡◌, ◌++◌, take, map}
use Rattle.scalar_expr.specs.Views.{pr_of}
use Rattle.scalar_expr.proofs.conjunction.add_copies.Given as goal

-- the copies of the predicates so far stand behind those that were there
abbrev pub invariant-more : goal.invariant-more
invariant-more l = map pr_of l.parts.items ≡ map pr_of l.initial.parts.items ++ map pr_of (take l.part-index l.more)
