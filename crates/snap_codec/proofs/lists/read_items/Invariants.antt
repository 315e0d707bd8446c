use Rattle.std.proofs.Common.{◌≡◌, ◌-◌}
use Rattle.snap_codec.specs.Reading.{items_at}
use Rattle.snap_codec.proofs.ListLemmas.{with_front}
use Rattle.snap_codec.proofs.lists.read_items.Given as goal

-- what was read so far, and what is still to be read, are all items
abbrev pub invariant-items : goal.invariant-items
invariant-items g l = with_front l.items (items_at (g.T.Stored.read_at l.total) (l.count - l.counter) l.rest) ≡ items_at (g.T.Stored.read_at l.total) l.count l.bytes
