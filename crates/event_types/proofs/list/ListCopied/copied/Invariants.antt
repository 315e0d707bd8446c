use Rattle.std.proofs.Common.{◌≡◌, take}
use Rattle.event_types.proofs.list.ListCopied.copied.Given as goal

abbrev pub invariant-items : goal.invariant-items
invariant-items g l = l.held.items ≡ take l.item-index l.item-items
