use Rattle.std.proofs.Common.{◌≡◌, map, take}
use Rattle.cayuga_run.proofs.wording.joined.Given as goal

-- the names so far stand in the list
abbrev pub invariant-loop-name : goal.invariant-loop-name
invariant-loop-name l = map (λ text. text.now) l.texts.items ≡ take l.name-index l.name-items
