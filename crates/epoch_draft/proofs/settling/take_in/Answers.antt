use Rattle.std.proofs.Common.{◌∙◌, sym, ap, subst, not}
use Rattle.std.specs.Prelude.{Option, Some}
use Rattle.std.specs.List.{All, filter}
use Rattle.instances.specs.declared.instance.Instance.{Instance}
use Rattle.semantics.specs.Nexts.{is_eligible}
use Rattle.scalar_expr.specs.Fits.{AllFit}
use Rattle.binding_index.specs.Stores.{instances_of, key_of}
use Rattle.binding_index.specs.declared.store.Store.{Store}
use Rattle.epoch_laws.specs.Events.{IsKeyOf}
use Rattle.epoch_laws.proofs.Events.{unmatched_is}
use Rattle.epoch_draft.specs.Held.{instances_in, key_in}
use Rattle.epoch_draft.proofs.KeyLemmas.{candidates_all}
use Rattle.epoch_draft.proofs.settling.take_in.Goals as goal

pub take-requires-clause-condition_fits : goal.take-requires-clause-condition_fits
take-requires-clause-condition_fits g c =
    let fits = λ (i : Instance). AllFit c.args.choose.now c.args.tuple.now (Some i.tuple) in
    candidates_all fits (key_of c.in-Some.store) c.args.tuple.now (instances_of c.in-Some.store) (subst (λ (o : Option Store). All fits (instances_in o)) c.in-Some.is c.requires.fits)

pub returns-in-Some-clause-instances : goal.returns-in-Some-clause-instances
returns-in-Some-clause-instances g c =
    let key = subst (λ (o : Option Store). IsKeyOf (key_in o) c.args.choose.now) c.in-Some.is c.requires.is_key in
    c.take.ensures.others ∙ unmatched_is (key_of c.in-Some.store) c.args.choose.now key c.args.tuple.now (instances_of c.in-Some.store)
    ∙ ap (λ (o : Option Store). filter (λ (i : Instance). not (is_eligible c.args.choose.now i.tuple c.args.tuple.now)) (instances_in o)) (sym c.in-Some.is)
