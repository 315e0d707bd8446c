use Rattle.std.proofs.Common.{◌∙◌, ◌++◌, ap, add-one, subst, sym, ℕ, List, arith}
use Rattle.std.specs.List.{flat_map}
use Rattle.std.proofs.lemmas.List.{take_all}
use Rattle.std.proofs.lemmas.List.Elements.{All-get_or}
use Rattle.catalogue.specs.Catalogued.{program_in}
use Rattle.explanation.specs.Explained.{explained_text}
use Rattle.explanation.specs.Telling.{CanBeTold}
use Rattle.explanation.proofs.ResultLemmas.{flat_map_more}
use Rattle.explanation.proofs.texts.tell.Goals as goal

-- the next result can be told
pub append_result-requires : goal.append_result-requires
append_result-requires c =
    let can = CanBeTold (program_in c.args.catalogue.now) c.args.history.now in
    subst can (sym c.told-item.is) (All-get_or can c.args.results.now c.loop-told.told-index c.told-item.result (omega arith) c.requires)

-- it was told behind the others
pub loop-told-preserved : goal.loop-told-preserved
loop-told-preserved c =
    let tells = explained_text (program_in c.args.catalogue.now) c.args.history.now in
    let more = flat_map_more tells c.args.results.now c.loop-told.told-index c.told-item.result (omega arith) c.told-item.is in
    c.in_ok-append_result.ensures ∙ ap (λ (bytes : List ℕ). bytes ++ tells c.told-item.result) c.loop-told.invariant ∙ rw add-one (sym more)
