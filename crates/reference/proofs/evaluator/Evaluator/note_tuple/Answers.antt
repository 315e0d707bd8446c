use Rattle.std.proofs.Common.{◌∙◌, ◌<◌, List, length, subst, sym}
use Rattle.std.proofs.lemmas.Result.{err_from_is_err_and}
use Rattle.event_types.specs.Tuple.{TupleView}
use Rattle.reference.specs.Hearing.{HasHeard}
use Rattle.reference.proofs.HearingLemmas.{hears_it, put_back}
use Rattle.reference.proofs.evaluator.Evaluator.note_tuple.Goals as goal

-- without memory the list stays
pub returns-in_err-add-clause-kept : goal.returns-in_err-add-clause-kept
returns-in_err-add-clause-kept c =
    let p = err_from_is_err_and c.from_residual.result c.from_residual.ensures.1 in
    rw p.1 (put_back c.self.inside.lists c.args.stream c.get_mut.result.now c.add.new.self c.get_mut.ensures.value c.in_err-add.ensures.kept ∙ c.self.view_is)

-- else the event stands at the end of its list
pub returns-clause-ok : goal.returns-clause-ok
returns-clause-ok c =
    let lists = c.self.inside.lists in
    let inside = subst (λ (ls : List (List TupleView)). c.args.stream < length ls) (sym c.self.view_is) c.requires in
    λ declared history h.
    hears_it lists c.args.stream c.args.tuple c.get_mut.result.now c.add.new.self inside c.get_mut.ensures.value c.in_ok-add.ensures.ok declared history (subst (HasHeard declared history) (sym c.self.view_is) h)
