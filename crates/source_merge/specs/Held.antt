-- What holds of a merge at any time. No public clause cites this module.
use Rattle.std.specs.Prelude.{◌≡◌, ◌<◌, ℕ, List, Option, map, nat_eq}
use Rattle.std.specs.BinaryHeap.{IsHeap}
use Rattle.std.specs.Cmp.{IsTotalOrder}
use Rattle.std.specs.List.{All, IsDistinct}
use Rattle.std.specs.Ordering.{flip_args, on}
use Rattle.std.specs.declared.cmp.Ordering.{Ordering}
use Rattle.std.proofs.lemmas.Cmp.{back_total, on_total}
use Rattle.source_merge.specs.declared.held.Held.{Held}
use Rattle.source_merge.specs.declared.source.Source.{Source}
use Rattle.source_merge.specs.Ranks.{Taken, rank_cmp, rank_total}
use Rattle.source_merge.specs.Sources.{turn_in, watermark}

-- the order of held events, by which the first one is the greatest
abbrev pub held_cmp : Held → Held → Ordering
held_cmp = flip_args (on (λ h. h.rank) rank_cmp)

-- it is total; impls of the order cite this
pub held_total : IsTotalOrder held_cmp
held_total = back_total (on_total (λ h. h.rank) rank_total)

-- a held event as one that was taken
abbrev pub taken_of : Held → Taken
taken_of held = (held.rank, held.seen)

-- the held events as those that were taken
abbrev pub listed : List Held → List Taken
listed items = map taken_of items

-- their places
abbrev pub places_in : List Taken → List ℕ
places_in taken = map (λ t. t.0.place) taken

-- the file whose turn it is is known, and the watermark; the held events are a heap, each of them was taken before the next one, and no two have one place
pub record IsMerge (slack : ℕ) (sources : List Source) (turn : Option (ℕ × Source)) (mark : Option ℕ) (items : List Held) (count : ℕ) : Type 0 where
  pub turn_is : turn ≡ turn_in sources
  pub mark_is : mark ≡ watermark slack sources
  pub heap : IsHeap held_cmp items
  pub before : All (λ t. t.0.place < count) (listed items)
  pub apart : IsDistinct nat_eq (places_in (listed items))
