use Rattle.std.proofs.Common.{◌∙◌, ◌++◌, ◌∷◌, [], ap, cond, map, sym}
use Rattle.cel_grammar.specs.Views.{statement_of}
use Rattle.catalogue.specs.Statements.{is_query, reads_by}
use Rattle.catalogue.proofs.PlaceLemmas.{slice_get-map}
use Rattle.plan_text.specs.Reads.{once}
use Rattle.plan_text.proofs.OnceLemmas.{reads_once-take}
use Rattle.plan_text.proofs.reads.reads_in.Goals as goal

-- what one more statement reads was added
pub loop-place-preserved : goal.loop-place-preserved
loop-place-preserved c =
    let statements = map statement_of c.args.file.now.statements in
    let statement = statement_of c.statement.result.now in
    let there = slice_get-map statement_of c.args.file.now.statements c.loop-place.place c.statement.result.now c.statement.ensures in
    c.in_ok-add_statement.ensures
    ∙ ap (λ reads. reads ++ cond (is_query statement) (once (reads_by statement) ∷ []) []) c.loop-place.invariant
    ∙ sym (reads_once-take statements c.loop-place.place statement there)
