use Rattle.std.proofs.Common.{◌∙◌, [], ap, arith}
use Rattle.std.specs.List.{fold}
use Rattle.std.proofs.lemmas.List.{take_all}
use Rattle.cel_grammar.specs.Views.{source_of}
use Rattle.cel_types.specs.Statements.{read_names}
use Rattle.plan_text.specs.Parts.{with_name}
use Rattle.plan_text.proofs.OnceLemmas.{fold-with_name-once}
use Rattle.plan_text.proofs.reads.reads_of.Goals as goal

-- all names were added to none
pub returns : goal.returns
returns c =
    let whole = take_all c.loop-name.name-index c.as_slice-name-items.result.now (omega (arith, c.loop-name-test.false)) in
    c.loop-name.invariant ∙ ap (fold with_name []) (whole ∙ c.as_slice-name-items.ensures ∙ c.in_ok-read.ensures) ∙ fold-with_name-once (read_names (source_of c.args.source.now))
