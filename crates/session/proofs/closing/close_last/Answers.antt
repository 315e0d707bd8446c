use Rattle.std.proofs.lemmas.Result.{err_from_is_err_and}
use Rattle.session.proofs.ClosedLemmas.{owes_both}
use Rattle.session.proofs.OwesLemmas.{rose_after}
use Rattle.session.proofs.WroteFrontLemmas.{Owes-all, Owes-trans, all_written, part_after}
use Rattle.session.proofs.closing.close_last.Goals as goal

-- all rows were written
pub returns-clause-ends : goal.returns-clause-ends
returns-clause-ends g c = λ history stands. Owes-all (Owes-trans (owes_both _ _ _ _ _ (c.in_ok-close_open.ensures.owes history stands)) (all_written c.in_ok-write_rows.ensures.ok))

-- they couldn't be written
pub returns-in_err-write_rows-clause-ends : goal.returns-in_err-write_rows-clause-ends
returns-in_err-write_rows-clause-ends g c =
    let p = err_from_is_err_and c.from_residual-in_err-write_rows.result c.from_residual-in_err-write_rows.ensures.1 in
    rw (p.1, p.2) (λ history stands. (
      rose_after _ _ _ c.close_open.ensures.same.later c.in_err-write_rows.ensures.cause,
      part_after (owes_both _ _ _ _ _ (c.in_ok-close_open.ensures.owes history stands)) c.in_err-write_rows.ensures.part,
    ))
