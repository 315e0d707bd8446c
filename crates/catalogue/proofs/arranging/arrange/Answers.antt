use Rattle.std.proofs.Common.{map}
use Rattle.std.proofs.lemmas.Result.{err_from_is_err_and}
use Rattle.cel_grammar.specs.Views.{statement_of}
use Rattle.catalogue.proofs.ArrangeLemmas.{tells_name}
use Rattle.catalogue.proofs.arranging.arrange.Goals as goal

-- the fault of a name
pub returns-in_err-named-clause-err : goal.returns-in_err-named-clause-err
returns-in_err-named-clause-err c =
    let p = err_from_is_err_and c.from_residual.result c.from_residual.ensures.1 in
    rw (p.1, p.2) (tells_name (map statement_of c.args.file.now.statements) c.args.file.now.lines _ c.in_err-named.ensures.err)
