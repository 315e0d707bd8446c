use Rattle.std.proofs.Common.{◌≡◌, ◌∙◌, sym, ap, ◌++◌, ◌∷◌, [], get_or, set}
use Rattle.std.proofs.lemmas.Option.{get_or_from_slice_get}
use Rattle.epoch_draft.proofs.Lists.{on_err_by, on_ok}
use Rattle.epoch_engine.proofs.EngineLemmas.{lent_back}
use Rattle.epoch_engine.proofs.epoch.Epoch.add.Goals as goal

-- nothing was put
pub returns-clause-kept : goal.returns-clause-kept
returns-clause-kept c =
    let tuples = c.args.self.now.tuples in
    let s = c.args.stream in
    on_err_by c.push.result (c.push.new.self ≡ c.get_mut.result.now) (set tuples s c.push.new.self ≡ tuples) (lent_back tuples s c.get_mut.result.now c.push.new.self c.get_mut.ensures.value) c.push.ensures.kept

-- the tuple stands behind those of its stream
pub returns-clause-ok : goal.returns-clause-ok
returns-clause-ok c =
    let tuples = c.args.self.now.tuples in
    let s = c.args.stream in
    let had = get_or_from_slice_get tuples s c.get_mut.result.now [] c.get_mut.ensures.value in
    on_ok c.push.result (c.push.new.self ≡ c.get_mut.result.now ++ c.args.tuple ∷ []) (set tuples s c.push.new.self ≡ set tuples s (get_or tuples s [] ++ c.args.tuple ∷ []))
    (λ e. ap (set tuples s) (e ∙ ap (λ ts. ts ++ c.args.tuple ∷ []) (sym had))) c.push.ensures.ok
