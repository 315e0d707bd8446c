use Rattle.std.proofs.Common.{◌∙◌, sym, subst, ℕ, ◌<◌, [], List, get_or}
use Rattle.std.specs.Prelude.{Contains, None}
use Rattle.std.specs.List.{All}
use Rattle.epoch_draft.specs.Readying.{HaveRoom, HaveRoomIn}
use Rattle.epoch_draft.proofs.Lists.{on_ok}
use Rattle.epoch_draft.proofs.MarkLemmas.{all_below}
use Rattle.epoch_draft.proofs.ReadyLemmas.{readied_all}
use Rattle.epoch_draft.proofs.readying.make_room.Goals as goal

pub make_room_at-requires-clause-within : goal.make_room_at-requires-clause-within
make_room_at-requires-clause-within c =
    subst (λ (m : ℕ). All (λ n. n < m) c.as_slice.result.now) c.requires.fits.reached_below (all_below c.args.draft.now.reached c.requires.fits.reached c.as_slice.result.now c.as_slice.ensures)

pub make_room_at-requires-clause-beads : goal.make_room_at-requires-clause-beads
make_room_at-requires-clause-beads c =
    subst (λ (m : ℕ). All (λ n. n < m) c.as_slice.result.now) (c.requires.fits.reached_below ∙ sym c.requires.fits.beads) (all_below c.args.draft.now.reached c.requires.fits.reached c.as_slice.result.now c.as_slice.ensures)

pub returns-clause-room : goal.returns-clause-room
returns-clause-room c =
    let draft = c.args.draft.now in
    let new = c.make_room_at.new.stores in
    let At = λ (ns : List ℕ). (n : ℕ) → Contains ns n → HaveRoomIn (get_or new n None) (get_or draft.beads n []) in
    on_ok c.make_room_at.result (At c.as_slice.result.now) (HaveRoom new draft.beads) (λ room. readied_all draft.reached.numbers draft.beads new c.requires.fits.reached_all (subst At c.as_slice.ensures room))
    c.make_room_at.ensures.room
