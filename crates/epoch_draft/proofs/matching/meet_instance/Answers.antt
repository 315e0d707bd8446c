use Rattle.std.proofs.Common.{◌≡◌, ◌∙◌, sym, ap, subst, ◌∷◌, [], map}
use Rattle.std.specs.Prelude.{Option, option_to_list}
use Rattle.std.specs.List.{All}
use Rattle.std.proofs.lemmas.List.Elements.{All-head}
use Rattle.event_types.specs.Tuple.{TupleView}
use Rattle.instances.specs.declared.instance.Instance.{Instance}
use Rattle.epoch_laws.specs.Instances.{began}
use Rattle.epoch_draft.specs.Pairs.{paired}
use Rattle.epoch_draft.specs.Suits.{LeavingSuits}
use Rattle.epoch_draft.proofs.matching.meet_instance.Goals as goal

pub leave-requires-clause-suits : goal.leave-requires-clause-suits
leave-requires-clause-suits g c =
    let net = c.args.waiting.now.network.now in
    let n = c.args.waiting.now.state in
    let w = c.args.waiting.now.wait.now in
    let i = c.args.instance.now in
    let t = c.args.tuple.now in
    let leaving = λ (made : Instance). LeavingSuits net n made.tuple in
    let is : paired w i.tuple t ≡ c.in-Some.made ∷ [] = sym c.in_ok-made.ensures.value ∙ ap (λ (o : Option TupleView). option_to_list o) c.in-Some.is in
    All-head leaving (began i.first c.in-Some.made) [] (subst (All leaving) (ap (map (began i.first)) is) c.requires.leaving)
