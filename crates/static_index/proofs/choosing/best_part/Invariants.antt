use Rattle.std.proofs.Common.{ℕ, ◌<◌, ◌≤◌}
use Rattle.std.specs.Prelude.{slice_index_or}
use Rattle.static_index.specs.Choosing.{rank}
use Rattle.static_index.specs.declared.fixed_part.FixedPart.{FixedPart}
use Rattle.static_index.proofs.choosing.best_part.Given as goal

abbrev pub invariant-places : goal.invariant-places
invariant-places l = record {
  within : l.best ≤ l.place;
  begun : 0 < l.place → l.best < l.place;
  before : (place : ℕ) (d : FixedPart) → place < l.place → rank (slice_index_or l.parts l.best d).cmp ≤ rank (slice_index_or l.parts place d).cmp;
}
