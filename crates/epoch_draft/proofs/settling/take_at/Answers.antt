use Rattle.std.proofs.Common.{◌∙◌, sym, ap, subst, ◌+◌, ◌≤◌, ℕ, length, not}
use Rattle.std.specs.Prelude.{Option, None, Some}
use Rattle.std.specs.List.{All, filter}
use Rattle.std.proofs.lemmas.Option.{get_or_from_slice_get, slice_get_within}
use Rattle.instances.specs.Keys.{EventFits, Key, candidates_of}
use Rattle.instances.specs.declared.instance.Instance.{Instance}
use Rattle.semantics.specs.Nexts.{is_eligible}
use Rattle.scalar_expr.specs.Fits.{AllFit}
use Rattle.binding_index.specs.Leads.{ready_in}
use Rattle.binding_index.specs.declared.store.Store.{Store}
use Rattle.automaton.specs.declared.wait.Wait.{Wait}
use Rattle.epoch_laws.specs.Events.{IsKeyOf}
use Rattle.epoch_draft.specs.Candidates.{candidates_by}
use Rattle.epoch_draft.specs.Held.{held, instances_in, key_in, shape_of}
use Rattle.epoch_draft.proofs.KeyLemmas.{first_key_is, key_at}
use Rattle.epoch_draft.proofs.SettleLemmas.{taken_there}
use Rattle.epoch_draft.proofs.settling.take_at.Goals as goal

pub take_in-requires-clause-is_key : goal.take_in-requires-clause-is_key
take_in-requires-clause-is_key g c =
    let w = c.in-Some.wait.now in
    let slot = get_or_from_slice_get c.args.stores.now c.args.state c.get_mut.result.now None c.get_mut.ensures.value in
    subst (λ (k : Option Key). IsKeyOf k w.choose) (sym (key_at c.args.network.now c.args.stores.now c.args.state w c.requires.stores (sym c.in-Some.ensures)) ∙ ap key_in slot) (first_key_is w.choose)

pub take_in-requires-clause-key : goal.take_in-requires-clause-key
take_in-requires-clause-key g c =
    let w = c.in-Some.wait.now in
    let slot = get_or_from_slice_get c.args.stores.now c.args.state c.get_mut.result.now None c.get_mut.ensures.value in
    subst (λ (k : Option Key). EventFits k c.args.tuple.now) (sym (key_at c.args.network.now c.args.stores.now c.args.state w c.requires.stores (sym c.in-Some.ensures)) ∙ ap key_in slot)
    (c.requires.key w (sym c.in-Some.ensures))

pub take_in-requires-clause-fits : goal.take_in-requires-clause-fits
take_in-requires-clause-fits g c =
    let w = c.in-Some.wait.now in
    let slot = get_or_from_slice_get c.args.stores.now c.args.state c.get_mut.result.now None c.get_mut.ensures.value in
    subst (All (λ (i : Instance). AllFit w.choose c.args.tuple.now (Some i.tuple))) (ap instances_in slot) (c.requires.fits w (sym c.in-Some.ensures))

pub returns-in-Some-clause-taken : goal.returns-in-Some-clause-taken
returns-in-Some-clause-taken g c =
    let below = slice_get_within c.args.stores.now c.args.state c.get_mut.result.now c.get_mut.ensures.value in
    let slot = sym (get_or_from_slice_get c.args.stores.now c.args.state c.get_mut.result.now None c.get_mut.ensures.value) in
    taken_there c.args.network.now c.args.tuple.now c.args.state c.in-Some.wait.now c.args.stores.now c.take_in.new.slot below (sym c.in-Some.ensures)
    (c.take_in.ensures.instances ∙ ap (λ (o : Option Store). filter (λ (i : Instance). not (is_eligible c.in-Some.wait.now.choose i.tuple c.args.tuple.now)) (instances_in o)) slot) (c.take_in.ensures.shape ∙ ap shape_of slot) (c.take_in.ensures.ready ∙ ap ready_in slot)

pub returns-in-Some-clause-ticks : goal.returns-in-Some-clause-ticks
returns-in-Some-clause-ticks g c =
    let t = c.args.tuple.now in
    let w = c.in-Some.wait.now in
    let stores = c.args.stores.now in
    let n = c.args.state in
    let slot = get_or_from_slice_get stores n c.get_mut.result.now None c.get_mut.ensures.value in
    let same = ap (λ (o : Option Store). length (candidates_of (key_in o) t (instances_in o))) (sym slot) ∙ ap (λ (k : Option Key). length (candidates_of k t (held stores n))) (key_at c.args.network.now stores n w c.requires.stores (sym c.in-Some.ensures))
    ∙ ap (λ (o : Option Wait). length (candidates_by o (held stores n) t)) c.in-Some.ensures in
    subst (λ (m : ℕ). c.take_in.new.steps ≤ c.args.steps.now + m) same c.take_in.ensures.ticks
