use Rattle.std.proofs.Common.{◌≡◌, map, take}
use Rattle.std.specs.List.{filter}
use Rattle.epoch_engine.specs.Prints.{due_of, is_printed}
use Rattle.epoch_engine.proofs.listing.note_due.Given as goal

-- those so far are noted that are printed
abbrev pub invariant-loop-stream : goal.invariant-loop-stream
invariant-loop-stream l = l.noted.items ≡ map (due_of l.turns) (filter (is_printed l.turns) (take l.stream-index l.due))
