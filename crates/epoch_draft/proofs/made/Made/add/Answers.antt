use Rattle.std.proofs.Common.{◌≡◌, ◌∙◌, ◌++◌, ◌∷◌, [], List, ℕ, ap, sym, length, get_or, set, map}
use Rattle.std.proofs.lemmas.Option.{get_or_from_slice_get}
use Rattle.event_types.specs.Tuple.{TupleView}
use Rattle.epoch_draft.specs.Made.{placed}
use Rattle.epoch_draft.proofs.Lists.{on_ok}
use Rattle.epoch_draft.proofs.MadeLemmas.{add_is}
use Rattle.epoch_draft.proofs.made.Made.add.Goals as goal

pub returns : goal.returns
returns c =
    let items = c.self.inside.tuples in
    let lists = c.self.inside.places in
    let s = c.args.stream in
    let x = c.args.tuple in
    let old = c.args.self.now in
    on_ok c.add-2.result (c.add-2.new.self ≡ c.get_mut.result.now ++ c.len-place.result ∷ []) (map (placed c.add.new.self) (set lists s c.add-2.new.self) ≡ set old s (get_or old s [] ++ x ∷ []))
    (λ is.
    ap (λ (ts : List TupleView). map (placed ts) (set lists s c.add-2.new.self)) c.in_ok-add.ensures.ok
    ∙ ap (λ (ps : List ℕ). map (placed (items ++ x ∷ [])) (set lists s ps)) (is ∙ ap (λ (n : ℕ). c.get_mut.result.now ++ n ∷ []) c.len-place.ensures ∙ ap (λ (ps : List ℕ). ps ++ length items ∷ []) (sym (get_or_from_slice_get lists s c.get_mut.result.now [] c.get_mut.ensures.value)))
    ∙ add_is items lists s x c.self.invariant ∙ ap (λ (rows : List (List TupleView)). set rows s (get_or rows s [] ++ x ∷ [])) c.self.view_is) c.add-2.ensures.ok
