use Rattle.std.proofs.Common.{◌≡◌, ◌++◌, length, take}
use Rattle.std.specs.List.{flat_map}
use Rattle.snap_codec.specs.Spelling.{number_bytes}
use Rattle.snap_codec.proofs.lists.ListStored.write.Given as goal

-- the length and the bytes of the items so far stand behind what was there
abbrev pub invariant-items : goal.invariant-items
invariant-items g l = l.out.items ≡ l.fn.out.items ++ (number_bytes (length l.self) ++ flat_map g.T.Stored.bytes_of (take l.item-index l.self))
