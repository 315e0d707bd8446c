use Rattle.std.proofs.Common.{◌≡◌}
use Rattle.std.specs.Prelude.{None}
use Rattle.stream_readers.proofs.KeyTableLemmas.{ChangedBelow}
use Rattle.stream_readers.proofs.TakenLemmas.{moves, still_named}
use Rattle.stream_readers.proofs.slots.take_away.Given as goal

-- the places so far have what is left, and the conditions name no other
abbrev pub invariant-loop-place : goal.invariant-loop-place
invariant-loop-place l = record {
  changed : ChangedBelow (moves l.gone) None l.place l.initial.slots l.slots;
  named : l.conditions ≡ still_named l.slots l.initial.conditions;
}
