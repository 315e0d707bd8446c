use Rattle.std.proofs.Common.{◌≡◌, ◌++◌, take}
use Rattle.std.specs.List.{flat_map}
use Rattle.cel_grammar.specs.Views.{agg_of}
use Rattle.cel_print.specs.Parts.{agg_text}
use Rattle.cel_print.proofs.items.append_aggs.Given as goal

-- the aggregates so far were put behind the text
abbrev pub invariant-loop-agg : goal.invariant-loop-agg
invariant-loop-agg l = l.text.items ≡ l.initial.text.items ++ flat_map (λ agg. agg_text (agg_of agg)) (take l.agg-index l.aggs)
