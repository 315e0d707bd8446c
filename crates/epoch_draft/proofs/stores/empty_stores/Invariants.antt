use Rattle.std.proofs.Common.{◌≡◌, ℕ, ◌<◌, length, get_or, []}
use Rattle.std.specs.Prelude.{None}
use Rattle.std.specs.Option.{option_map}
use Rattle.automaton.specs.States.{wait_at}
use Rattle.automaton.specs.declared.wait.Wait.{Wait}
use Rattle.binding_index.specs.Leads.{ready_in}
use Rattle.epoch_draft.specs.Held.{instances_in, shape_for, shape_of}
use Rattle.epoch_draft.proofs.stores.empty_stores.Given as goal

-- the states so far have their stores
abbrev pub invariant-loop-number : goal.invariant-loop-number
invariant-loop-number l = record {
  as_many : length l.stores ≡ l.number;
  shapes : (k : ℕ) → k < l.number → shape_of (get_or l.stores k None) ≡ option_map (λ (wait : Wait). shape_for wait.choose) (wait_at l.network k);
  empty : (k : ℕ) → instances_in (get_or l.stores k None) ≡ [];
  none_ready : (k : ℕ) → ready_in (get_or l.stores k None) ≡ [];
}
