use Rattle.std.proofs.Common.{◌≡◌, false, map, take}
use Rattle.cel_grammar.specs.Views.{agg_of}
use Rattle.cel_types.specs.Aggregates.{is_among}
use Rattle.cel_types.specs.Assigning.{names_in}
use Rattle.cel_types.proofs.aggregates.has_name.Given as goal

abbrev pub invariant-loop-agg : goal.invariant-loop-agg
invariant-loop-agg l = is_among (names_in (map agg_of (take l.agg-index l.aggs))) l.name ≡ false
