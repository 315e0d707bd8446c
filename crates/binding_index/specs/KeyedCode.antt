-- The code by which the logic stores a store with a key. No public clause cites this module.
use Rattle.std.specs.Prelude.{ℕ, List, refl}
use Rattle.std.specs.Coded.{Coded, code_by, coded×, coded_list, coded_ℕ}
use Rattle.event_types.specs.contracts.value.Value as value
use Rattle.event_types.specs.declared.value.Value.{Value}
use Rattle.semantics.specs.Codes.{conj_code}
use Rattle.semantics.specs.Scalars.{Pr}
use Rattle.instances.specs.contracts.instance.Instance as instance
use Rattle.instances.specs.declared.instance.Instance.{Instance}
use Rattle.binding_index.specs.Keyed.{Keyed}

-- a store with a key is stored as its condition, the two places of its key, its ready keys and its instances
abbrev pub keyed_code : Coded Keyed
keyed_code =
    code_by ((List Pr × List Value) × ((ℕ × ℕ) × List Instance))
    (coded× (coded× conj_code (coded_list value.the_row.coded)) (coded× (coded× coded_ℕ coded_ℕ) (coded_list instance.the_row.coded)))
    (λ s. ((s.condition, s.ready), ((s.key.event, s.key.binding), s.instances)))
    (λ p. record { condition = p.0.0; key = record { event = p.1.0.0; binding = p.1.0.1 }; ready = p.0.1; instances = p.1.1 })
    (λ _. refl)
