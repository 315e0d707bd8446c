use Rattle.std.proofs.Common.{◌∙◌, ◌<◌, ◌++◌, ◌∷◌, [], List, ap, sym, refl, length, get_or}
use Rattle.std.proofs.lemmas.List.Elements.{All-get_or}
use Rattle.std.proofs.lemmas.Option.{slice_get_read}
use Rattle.event_types.specs.Tuple.{TupleView}
use Rattle.epoch_draft.proofs.MadeLemmas.{placed_step}
use Rattle.epoch_draft.proofs.made.copies.Goals as goal

-- one tuple more
pub loop-place-preserved : goal.loop-place-preserved
loop-place-preserved c =
    let items = c.args.tuples.now in
    let places = c.args.places.now in
    let i = c.loop-place.place-index in
    let lt = c.loop-place-test.true in
    let item = c.index-tuples-place.result in
    let below = All-get_or (λ place. place < length items) places i 0 lt c.requires in
    c.in_ok-push.ensures.items ∙ ap (λ (x : TupleView). c.loop-place.copies.items ++ x ∷ []) c.in_ok-copy.ensures ∙ ap (λ (xs : List TupleView). xs ++ item ∷ []) c.loop-place.invariant
    ∙ sym (placed_step items places i item lt (slice_get_read items (length items) (get_or places i 0) item refl below c.index-tuples-place.is))
