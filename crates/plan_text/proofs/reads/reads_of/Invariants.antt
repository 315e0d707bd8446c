use Rattle.std.proofs.Common.{◌≡◌, [], take}
use Rattle.std.specs.List.{fold}
use Rattle.plan_text.specs.Parts.{with_name}
use Rattle.plan_text.proofs.reads.reads_of.Given as goal

-- the names so far were added to none
abbrev pub invariant-loop-name : goal.invariant-loop-name
invariant-loop-name l = l.names ≡ fold with_name [] (take l.name-index l.name-items)
