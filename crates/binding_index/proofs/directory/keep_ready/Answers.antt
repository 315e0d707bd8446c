use Rattle.std.proofs.Common.{◌≡◌, ◌∙◌, ◌<◌, length, slice_index, slice_index_or, sym, arith}
use Rattle.std.proofs.lemmas.List.{get_or_default}
use Rattle.std.proofs.lemmas.List.Filters.{FiltersInPlace-more_no, FiltersInPlace-more_set}
use Rattle.binding_index.proofs.directory.keep_ready.Goals.{else-is_ready, then-is_ready}
use Rattle.binding_index.proofs.directory.keep_ready.Goals as goal

pub loop-place-preserved : goal.loop-place-preserved
loop-place-preserved c =
    let low : c.loop-place.place < length c.loop-place.states = omega (arith, c.loop-place.invariant.long, c.len-place-end.ensures, c.loop-place-test.true) in
    let at : slice_index c.as_slice.result.now c.loop-place.place ≡ slice_index_or c.loop-place.states c.loop-place.place (slice_index c.as_slice.result.now c.loop-place.place) =
    (λ i. slice_index (c.as_slice.ensures i) c.loop-place.place) ∙ get_or_default c.loop-place.states c.loop-place.place _ _ low in
    elim c.if-is_ready.branch [
      | then-is_ready w ↦ rw (w.states-is, w.kept-is, w.set.ensures) (FiltersInPlace-more_set c.loop-place.invariant low (sym c.is_ready.ensures ∙ w.if-is_ready.true) at)
      | else-is_ready w ↦ rw (w.states-is, w.kept-is) (FiltersInPlace-more_no c.loop-place.invariant low (sym c.is_ready.ensures ∙ w.if-is_ready.false) at)
    ]
