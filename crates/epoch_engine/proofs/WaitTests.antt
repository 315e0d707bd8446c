-- The tests at a wait where fewer bindings are.
use Rattle.std.proofs.Common.{ℕ, ◌≤◌, List}
use Rattle.std.specs.Prelude.{sum_by}
use Rattle.event_types.specs.Tuple.{TupleView}
use Rattle.semantics.specs.Denotation.{Streams}
use Rattle.instances.specs.Keys.{key_matches}
use Rattle.binding_index.specs.KeyParts.{first_key}
use Rattle.static_index.specs.FixedParts.{fixed_parts}
use Rattle.automaton.specs.declared.wait.Wait.{Wait}
use Rattle.epoch_laws.specs.Stores.{IsWithin}
use Rattle.epoch_laws.specs.Times.{during}
use Rattle.epoch_laws.proofs.Lists.{every}
use Rattle.epoch_engine.specs.Work.{keyed_bindings, looking_up, pair_tests, wait_tests}
use Rattle.epoch_engine.proofs.TestSums.{sum_less, sum_within}

-- a wait where fewer bindings are has no more tests
pub wait_fewer : (time : ℕ) (streams : Streams) (w : Wait) (some more : List TupleView) → IsWithin some more → wait_tests time streams w some ≤ wait_tests time streams w more
wait_fewer time streams w some more within =
    let tests : List TupleView → TupleView → ℕ = λ bs t. sum_by (λ b. pair_tests w.fold) (keyed_bindings w.choose t bs) in
    let rows = looking_up (fixed_parts w.choose) (during time (streams w.stream)) in
    sum_less (tests some) (tests more) rows (every (λ t. tests some t ≤ tests more t) (λ t. sum_within (key_matches (first_key w.choose) t) (λ b. pair_tests w.fold) some more within) rows)
