-- What becomes of a list whose item is lent to be changed.
use Rattle.std.specs.Prelude.{ℕ, List, slice_set}
use Rattle.std.specs.Borrow.{Lends, Fml, RattleType, MutBor}
use Rattle.event_types.specs.contracts.list.List.{the_row}

-- the list ends with the item as it was left in its place
abbrev pub lends_item : (T : RattleType) → MutBor (List T.Denot) → ℕ → MutBor T.Denot → Fml
lends_item T list place item = Lends (the_row T) T list item (slice_set list.now place)
