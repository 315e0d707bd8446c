use Rattle.std.proofs.Common.{◌≡◌, map}
use Rattle.std.specs.List.{range_with_len}
use Rattle.semantics.specs.Scalars.{Binding}
use Rattle.scalar_expr.specs.Views.{sc_of}
use Rattle.cel_types.proofs.aggregates.old_values.Given as goal

abbrev pub invariant-loop-place : goal.invariant-loop-place
invariant-loop-place l = map sc_of l.terms.items ≡ map Binding (range_with_len 0 l.place)
