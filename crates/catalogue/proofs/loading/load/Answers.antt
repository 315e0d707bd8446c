use Rattle.std.proofs.lemmas.Result.{err_from_is_err_and}
use Rattle.catalogue.specs.Parts.{judged_of, parts_of}
use Rattle.catalogue.proofs.LoadLemmas.{tells_file}
use Rattle.catalogue.proofs.loading.load.Goals as goal

-- the text is no file
pub returns-in_err-file-clause-err : goal.returns-in_err-file-clause-err
returns-in_err-file-clause-err c =
    let p = err_from_is_err_and c.from_residual.result c.from_residual.ensures.1 in
    rw (p.1, p.2) (tells_file c.args.text.now _ c.in_err-file.ensures.err)

-- it is judged as it was typed
pub returns-clause-ok : goal.returns-clause-ok
returns-clause-ok c =
    let file = c.in_ok-file.file in
    let typed = c.in_ok-typed.typed in
    record { judged = judged_of (parts_of file typed.streams typed.order typed.expressions); accepts = c.in_ok-typed.ensures.ok c.args.text.now c.in_ok-file.ensures.ok; holds = c.in_ok-make.ensures.holds; unchanged = c.in_ok-make.ensures.unchanged }
