-- The code by which the logic stores what contracts see of an engine. No public clause cites this module.
use Rattle.std.specs.Prelude.{ℕ, List, Option, refl}
use Rattle.std.specs.Coded.{Coded, code_by, coded×, coded_list, coded_option, coded_ℕ}
use Rattle.event_types.specs.Tuple.{TupleView}
use Rattle.event_types.specs.contracts.tuple.Tuple as tuple
use Rattle.instances.specs.contracts.instance.Instance as instance
use Rattle.instances.specs.declared.instance.Instance.{Instance}
use Rattle.automaton.specs.States.{Net}
use Rattle.automaton.specs.contracts.layout.Layout as layout
use Rattle.automaton.specs.contracts.network.State as state
use Rattle.automaton.specs.declared.layout.Layout.{Layout}
use Rattle.epoch_engine.specs.EngineView.{EngineView}

-- what is planned: the network and the layout
abbrev PlanPart : Type 0
PlanPart = Net × Layout

-- what is held: the instances of each state and the open tuples of each stream
abbrev HeldPart : Type 0
HeldPart = List (List Instance) × List (List TupleView)

-- the times: the open one and the last closed one
abbrev TimesPart : Type 0
TimesPart = Option ℕ × Option ℕ

-- the code of each part
abbrev plan_code : Coded PlanPart
plan_code = coded× (coded_list (coded_option state.the_row.coded)) layout.the_row.coded

-- the same of what is held
abbrev held_code : Coded HeldPart
held_code = coded× (coded_list (coded_list instance.the_row.coded)) (coded_list (coded_list tuple.the_row.coded))

-- the same of the times
abbrev times_code : Coded TimesPart
times_code = coded× (coded_option coded_ℕ) (coded_option coded_ℕ)

-- a view is stored as pairs of its parts
abbrev pub view_code : Coded EngineView
view_code =
    code_by ((PlanPart × HeldPart) × TimesPart) (coded× (coded× plan_code held_code) times_code)
    (λ v. (((v.network, v.layout), (v.stores, v.opened)), (v.time, v.closed_time)))
    (λ p. record { network = p.0.0.0; layout = p.0.0.1; stores = p.0.1.0; opened = p.0.1.1; time = p.1.0; closed_time = p.1.1 }) (λ _. refl)
