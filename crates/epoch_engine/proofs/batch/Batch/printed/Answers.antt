use Rattle.std.proofs.Common.{◌∙◌, ◌<◌, ap, sym, subst, ℕ, List, length}
use Rattle.std.specs.List.{All}
use Rattle.std.proofs.lemmas.List.{length-map}
use Rattle.event_types.specs.Tuple.{TupleView}
use Rattle.semantics.specs.Denotation.{streams_of}
use Rattle.epoch_draft.specs.Made.{placed}
use Rattle.epoch_engine.specs.Results.{results_of}
use Rattle.epoch_engine.specs.declared.room.Room.{Room}
use Rattle.epoch_engine.proofs.batch.Batch.printed.Goals as goal

-- the streams in the room have the tuples there
pub returns-clause-results : goal.returns-clause-results
returns-clause-results c =
    let streams = c.as_slice.ensures ∙ ap (λ (r : Room). r.streams) c.deref-2.ensures in
    let made = ap (λ (r : Room). r.drawing.draft.made) (sym c.deref.ensures) ∙ c.show-made.ensures.value in
    sym c.self.view_is ∙ (λ i. results_of (sym streams i) (streams_of (made i)))

-- and they are below their number
pub returns-clause-within : goal.returns-clause-within
returns-clause-within c =
    let streams = c.as_slice.ensures ∙ ap (λ (r : Room). r.streams) c.deref-2.ensures in
    let made = ap (λ (r : Room). r.drawing.draft.made) (sym c.deref.ensures) ∙ c.show-made.ensures.value in
    subst (λ (n : ℕ). All (λ stream. stream < n) c.as_slice.result.now) (ap (λ (lists : List (List TupleView)). length lists) made ∙ length-map c.show-made.result.places.now (placed c.show-made.result.tuples.now)) (subst (All (λ stream. stream < length c.self.inside.room.value.drawing.draft.made)) (sym streams) c.self.invariant.within)
