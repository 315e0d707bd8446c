use Rattle.std.proofs.Common.{◌≡◌, ◌++◌, map, take}
use Rattle.std.specs.List.{range_with_len}
use Rattle.semantics.specs.Scalars.{Event}
use Rattle.scalar_expr.specs.Views.{sc_of}
use Rattle.cel_types.proofs.items.add_all.Given as goal

abbrev pub invariant-loop-place : goal.invariant-loop-place
invariant-loop-place l = record {
  attributes : l.made.attributes ≡ l.initial.made.attributes ++ take l.place l.schema;
  terms : map sc_of l.made.terms ≡ map sc_of l.initial.made.terms ++ map Event (range_with_len 0 l.place);
}
