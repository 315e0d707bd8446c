use Rattle.std.proofs.Common.{◌≡◌, ◌∷◌, [], length, map, subst}
use Rattle.automaton.specs.States.{Net}
use Rattle.automaton.specs.declared.network.End.{End}
use Rattle.stream_readers.specs.Ways.{Out}
use Rattle.epoch_laws.specs.Instances.{began}
use Rattle.epoch_draft.specs.Drafts.{Grows}
use Rattle.epoch_draft.specs.Moves.{moves_on}
use Rattle.epoch_draft.proofs.GoingLemmas.{go_one}
use Rattle.epoch_draft.proofs.Lists.{on_ok}
use Rattle.epoch_draft.proofs.going.hand_out_all.Goals as goal

-- the instance goes out by the one end
pub returns-in-len1-clause-grows : goal.returns-in-len1-clause-grows
returns-in-len1-clause-grows g c =
    let x = c.args.instance in
    let old = c.args.draft.now in
    let new = c.hand_out.new.draft in
    let end = c.end-item.result in
    on_ok c.hand_out.result ((net : Net) → length old.beads ≡ length net → Grows net (moves_on (Out end ∷ []) (began x.first x.tuple)) old new) (Grows c.args.network.now (moves_on (map Out c.args.ends.now) x) old new)
    (λ grows.
    go_one Out c.args.network.now c.args.ends.now end x old new c.in-len1.len_at_least c.in-len1.len_below
    (subst (λ (e : End). Grows c.args.network.now (moves_on (Out e ∷ []) x) old new) c.end-item.is (grows c.args.network.now c.requires.fits.beads)))
    c.hand_out.ensures.grows
