use Rattle.std.proofs.Common.{◌≡◌, ◌≢◌, ◌<◌, ◌++◌, ℕ, [], get_or}
use Rattle.std.specs.Prelude.{AllPairs}
use Rattle.semantics.specs.Values.{value_at}
use Rattle.binding_index.specs.Leads.{states_at}
use Rattle.stream_readers.specs.Finding.{led_by}
use Rattle.stream_readers.proofs.key_readers.add_led.Given as goal

-- the states to which the values so far lead were put behind
abbrev pub invariant-loop-attribute : goal.invariant-loop-attribute
invariant-loop-attribute l = record {
  led : l.waits ≡ l.initial.waits ++ led_by l.network l.stream l.directories l.tuple l.attribute;
  once : (attribute : ℕ) → attribute < l.attribute → AllPairs (λ state other. state ≢ other) (states_at (get_or l.directories attribute []) (value_at l.tuple attribute));
}
