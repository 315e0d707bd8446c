use Rattle.std.proofs.Common.{◌≡◌, ◌∙◌, sym, ap, subst, ◌+◌, ◌≤◌, ℕ, [], List}
use Rattle.std.specs.Prelude.{IsTrue, Option, None, OnOk, sum_by}
use Rattle.std.specs.List.{All}
use Rattle.std.proofs.lemmas.Option.{get_or_from_slice_get}
use Rattle.instances.specs.Keys.{EventFits, Key, key_matches}
use Rattle.instances.specs.declared.instance.Instance.{Instance}
use Rattle.binding_index.specs.KeyParts.{first_key}
use Rattle.binding_index.specs.Stores.{instances_of, key_of}
use Rattle.binding_index.proofs.TakeLemmas.{candidates_match}
use Rattle.automaton.specs.declared.wait.Wait.{Wait}
use Rattle.epoch_draft.specs.Drafts.{Grows}
use Rattle.epoch_draft.specs.Held.{held, instances_in, key_in}
use Rattle.epoch_draft.specs.Meeting.{met_at, met_by}
use Rattle.epoch_draft.specs.Moves.{moves_from}
use Rattle.epoch_draft.specs.Pairs.{met}
use Rattle.epoch_draft.specs.Suits.{LeavingSuits, WaitSuits}
use Rattle.epoch_draft.specs.Work.{binding_work, met_work}
use Rattle.epoch_draft.proofs.DraftLemmas.{grows_none}
use Rattle.epoch_draft.proofs.KeyLemmas.{candidates_all, found_there, key_at, met_candidates}
use Rattle.epoch_draft.proofs.matching.meet_wait.Goals as goal

pub candidates-requires : goal.candidates-requires
candidates-requires g c =
    let stores = c.args.stores.now in
    let n = c.args.state in
    let w = c.in-Some.wait.now in
    let at = sym c.in-Some.ensures in
    let slot = get_or_from_slice_get stores n c.get.result.now None c.get.ensures ∙ c.in-Some-get.is in
    subst (λ k. EventFits k c.args.tuple.now) (sym (key_at c.args.network.now stores n w c.requires.stores at) ∙ ap key_in slot) (c.requires.suits w at).key

pub meet_instances-requires-clause-suits : goal.meet_instances-requires-clause-suits
meet_instances-requires-clause-suits g c =
    let stores = c.args.stores.now in
    let n = c.args.state in
    let t = c.args.tuple.now in
    let w = c.in-Some.wait.now in
    let at = sym c.in-Some.ensures in
    let suits = λ (i : Instance). WaitSuits w i.tuple t in
    let slot = get_or_from_slice_get stores n c.get.result.now None c.get.ensures ∙ c.in-Some-get.is in
    let is = found_there c.args.network.now stores n w c.in-Some-get.store t c.candidates.result c.requires.stores at slot c.candidates.ensures in
    subst (All suits) (sym is) (candidates_all suits (first_key w.choose) t (held stores n) (c.requires.suits w at).instances)

pub meet_instances-requires-clause-found : goal.meet_instances-requires-clause-found
meet_instances-requires-clause-found g c =
    let t = c.args.tuple.now in
    let store = c.in-Some-get.store in
    let found = λ (k : Option Key) (i : Instance). IsTrue (key_matches k t i.tuple) in
    subst (λ (k : Option Key). All (found k) c.candidates.result) (sym c.key_places-key.ensures) (subst (All (found (key_of store))) (sym c.candidates.ensures) (candidates_match (key_of store) t (instances_of store)))

pub meet_instances-requires-clause-leaving : goal.meet_instances-requires-clause-leaving
meet_instances-requires-clause-leaving g c =
    let stores = c.args.stores.now in
    let n = c.args.state in
    let t = c.args.tuple.now in
    let w = c.in-Some.wait.now in
    let at = sym c.in-Some.ensures in
    let slot = get_or_from_slice_get stores n c.get.result.now None c.get.ensures ∙ c.in-Some-get.is in
    let is = found_there c.args.network.now stores n w c.in-Some-get.store t c.candidates.result c.requires.stores at slot c.candidates.ensures in
    subst (All (λ (made : Instance). LeavingSuits c.args.network.now n made.tuple)) (sym (ap (λ (found : List Instance). met w found t) is ∙ met_candidates w t (held stores n))) (c.requires.suits w at).leaving

pub returns-in-Some-get-clause-grows : goal.returns-in-Some-get-clause-grows
returns-in-Some-get-clause-grows g c =
    let net = c.args.network.now in
    let stores = c.args.stores.now in
    let n = c.args.state in
    let t = c.args.tuple.now in
    let w = c.in-Some.wait.now in
    let at = sym c.in-Some.ensures in
    let slot = get_or_from_slice_get stores n c.get.result.now None c.get.ensures ∙ c.in-Some-get.is in
    let is = found_there net stores n w c.in-Some-get.store t c.candidates.result c.requires.stores at slot c.candidates.ensures in
    let same : met w c.candidates.result t ≡ met_at net (held stores) t n =
    ap (λ (found : List Instance). met w found t) is ∙ met_candidates w t (held stores n) ∙ ap (λ (o : Option Wait). met_by o (held stores n) t) c.in-Some.ensures in
    subst (λ rows. OnOk c.meet_instances.result (Grows net (moves_from net n rows) c.args.draft.now c.meet_instances.new.draft)) same c.meet_instances.ensures.grows

pub returns-in-Some-get-clause-ticks : goal.returns-in-Some-get-clause-ticks
returns-in-Some-get-clause-ticks g c =
    let net = c.args.network.now in
    let stores = c.args.stores.now in
    let n = c.args.state in
    let t = c.args.tuple.now in
    let w = c.in-Some.wait.now in
    let at = sym c.in-Some.ensures in
    let slot = get_or_from_slice_get stores n c.get.result.now None c.get.ensures ∙ c.in-Some-get.is in
    let is = found_there net stores n w c.in-Some-get.store t c.candidates.result c.requires.stores at slot c.candidates.ensures in
    let same = ap (sum_by (binding_work net n w t)) is ∙ ap (λ (o : Option Wait). met_work net n o (held stores n) t) c.in-Some.ensures in
    subst (λ (work : ℕ). c.meet_instances.new.steps ≤ c.args.steps.now + work) same c.meet_instances.ensures.ticks

pub returns-in-None-clause-grows : goal.returns-in-None-clause-grows
returns-in-None-clause-grows g c =
    let net = c.args.network.now in
    let stores = c.args.stores.now in
    let n = c.args.state in
    let t = c.args.tuple.now in
    let w = c.in-Some.wait.now in
    let none : held stores n ≡ [] = ap instances_in (get_or_from_slice_get stores n c.get.result.now None c.get.ensures ∙ c.in-None.is) in
    let same : [] ≡ met_at net (held stores) t n = ap (λ (is : List Instance). met w is t) (sym none) ∙ ap (λ (o : Option Wait). met_by o (held stores n) t) c.in-Some.ensures in
    subst (λ rows. Grows net (moves_from net n rows) c.args.draft.now c.args.draft.now) same
    (grows_none net c.args.draft.now c.requires.draft.fits)
