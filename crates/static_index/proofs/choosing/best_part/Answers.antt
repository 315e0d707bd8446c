use Rattle.std.proofs.Common.{◌≡◌, ◌≤◌, ◌⊎◌, inl, inr, arith}
use Rattle.static_index.specs.Choosing.{rank}
use Rattle.static_index.proofs.HoldingLemmas.{best_of}
use Rattle.static_index.proofs.choosing.best_part.Goals.{then-is_better, else-is_better}
use Rattle.static_index.proofs.choosing.best_part.Goals as goal

pub places-preserved : goal.places-preserved
places-preserved c =
    let within = c.places.invariant.within in
    let which : (((c.if-is_better.best ≡ c.places.place) × (rank c.get.result.now.cmp ≤ rank c.get-in-places.result.now.cmp)) ⊎ ((c.if-is_better.best ≡ c.places.best) × (rank c.get-in-places.result.now.cmp ≤ rank c.get.result.now.cmp))) =
    elim c.if-is_better.branch [
      | then-is_better w ↦ inl (w.best-is, c.is_better.ensures.better w.if-is_better.true)
      | else-is_better w ↦ inr (w.best-is, c.is_better.ensures.not_better w.if-is_better.false)
    ] in
    record {
      within = elim c.if-is_better.branch [ then-is_better w ↦ let e = w.best-is in omega (arith, e) | else-is_better w ↦ let e = w.best-is in omega (arith, e, within) ];
      begun = λ positive. elim c.if-is_better.branch [ then-is_better w ↦ let e = w.best-is in omega (arith, e) | else-is_better w ↦ let e = w.best-is in omega (arith, e, within) ];
      before = best_of c.args.parts.now c.places.best c.places.place c.if-is_better.best c.get.result.now c.get-in-places.result.now c.get.ensures c.get-in-places.ensures which c.places.invariant.before;
    }
