use Rattle.std.proofs.Common.{arith}
use Rattle.std.proofs.lemmas.Grind.{common_steps}
use Rattle.std.proofs.lemmas.List.Folds.{flat_map-map}
use Rattle.cel_grammar.specs.Views.{agg_of}
use Rattle.cel_print.specs.Parts.{agg_text}
use Rattle.cel_print.proofs.items.append_aggs.Goals as goal

pub returns : goal.returns
returns c = grind (arith, common_steps, flat_map-map agg_text agg_of c.args.aggs.now)
