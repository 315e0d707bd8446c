use Rattle.std.proofs.Common.{◌≡◌, ◌++◌, filter, take}
use Rattle.stream_readers.specs.Finding.{is_found_by}
use Rattle.stream_readers.proofs.key_readers.add_met.Given as goal

-- those of the states so far were put behind
abbrev pub invariant-loop-state : goal.invariant-loop-state
invariant-loop-state l = l.waits ≡ l.initial.waits ++ filter (is_found_by l.network l.stream l.tuple l.attribute) (take l.state-index l.states)
