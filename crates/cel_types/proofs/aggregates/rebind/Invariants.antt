use Rattle.std.proofs.Common.{map, take}
use Rattle.cel_grammar.specs.Views.{agg_of}
use Rattle.scalar_expr.specs.Views.{sc_of}
use Rattle.cel_types.specs.Assigning.{Rebinds}
use Rattle.cel_types.proofs.aggregates.rebind.Given as goal

abbrev pub invariant-loop-place : goal.invariant-loop-place
invariant-loop-place l = Rebinds l.binding l.event (map agg_of (take l.place l.aggs)) (map sc_of l.terms.items)
