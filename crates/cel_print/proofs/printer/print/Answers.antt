use Rattle.std.proofs.Common.{◌≡◌, ◌∙◌, ℕ, List, add-one, arith, map, subst, sym}
use Rattle.std.proofs.lemmas.Grind.{common_steps}
use Rattle.std.proofs.lemmas.List.Folds.{flat_map-map}
use Rattle.std.proofs.lemmas.Result.{IfOk-weaker}
use Rattle.cel_grammar.specs.Views.{statement_of}
use Rattle.cel_grammar.specs.Sentences.{ReadsAs}
use Rattle.cel_grammar.specs.Trees.{Statement}
use Rattle.cel_print.specs.Laws.{lines_from}
use Rattle.cel_print.specs.Spelled.{canon, line_of}
use Rattle.cel_print.proofs.Again.{read_again}
use Rattle.cel_print.proofs.Lists.{lines_more}
use Rattle.cel_print.proofs.printer.print.Goals as goal

pub loop-i-preserved : goal.loop-i-preserved
loop-i-preserved c =
    let more = lines_more (λ s. line_of (statement_of s)) c.args.file.now.statements c.loop-i.i c.statement.result.now c.statement.ensures in
    rw add-one (grind (arith, common_steps, more))

pub returns-clause-text : goal.returns-clause-text
returns-clause-text c = grind (arith, common_steps, flat_map-map line_of statement_of c.args.file.now.statements)

pub returns-clause-read_again : goal.returns-clause-read_again
returns-clause-read_again c =
    let statements : List Statement = map statement_of c.args.file.now.statements in
    let whole : c.as_slice.result.now ≡ canon statements = grind (arith, common_steps, flat_map-map line_of statement_of c.args.file.now.statements) in
    let some = c.size-i-end.ensures.is_read in
    let R : List ℕ → Type 0 = λ text. ReadsAs text statements (lines_from 1 statements) in
    IfOk-weaker c.text_of.result (λ text. text ≡ c.as_slice.result.now) R
    (λ text same. subst R (sym (same ∙ whole)) (read_again some.text statements c.args.file.now.lines some.reads))
    c.text_of.ensures
