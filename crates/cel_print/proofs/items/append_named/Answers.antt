use Rattle.std.proofs.Common.{arith}
use Rattle.std.proofs.lemmas.Grind.{common_steps}
use Rattle.cel_grammar.specs.Views.{scalar_of}
use Rattle.cel_print.proofs.TextSources.{named_is}
use Rattle.cel_print.proofs.items.append_named.Goals as goal

pub returns : goal.returns
returns c = grind (arith, common_steps, named_is (scalar_of c.args.value.now) c.args.name.now)
