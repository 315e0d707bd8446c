use Rattle.std.proofs.Common.{◌≡◌, ◌∙◌, ◌+◌, length, subst, sym, arith}
use Rattle.std.specs.List.{All}
use Rattle.semantics.specs.Programs.{Program}
use Rattle.catalogue.specs.Catalogued.{program_in}
use Rattle.explanation.specs.Telling.{CanBeTold}
use Rattle.explanation.proofs.PlaceLemmas.{can_be_told}
use Rattle.explanation.proofs.ResultLemmas.{all_in_order}
use Rattle.explanation.proofs.texts.explain.Goals as goal

-- all results can be told
pub tell-requires : goal.tell-requires
tell-requires g c =
    let program : Program = program_in c.args.catalogue.now in
    let can = CanBeTold program c.args.history.now in
    let counted : 0 + length program.queries ≡ length program.queries = omega arith in
    subst (All can) (sym (c.as_slice.ensures ∙ c.in_ok-results.ensures)) (all_in_order can c.in_ok-table.table (can_be_told program c.args.history.now 0 program.queries c.in_ok-table.table counted c.in_ok-table.ensures))
