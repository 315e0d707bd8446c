-- Examples of the tests that epochs ask for, worked out by hand. No contract cites them.
use Rattle.std.proofs.Common.{◌≡◌, refl, ℕ, pos, List, [], ◌∷◌}
use Rattle.std.specs.Prelude.{Option, Some, None}
use Rattle.event_types.specs.declared.comparison.Cmp.TheVariants as cmp
use Rattle.event_types.specs.declared.value.Value.TheVariants as value
use Rattle.semantics.specs.Histories.{Event as Heard}
use Rattle.semantics.specs.Scalars.{Binding, Dur, Event, Lit, Test}
use Rattle.automaton.specs.Prefixes.{Prefix, Root, After}
use Rattle.automaton.specs.declared.line.Hop.{Hop}
use Rattle.automaton.specs.declared.step.Stage.TheVariants.{Keep}
use Rattle.automaton.specs.declared.wait.Turn.{Turn}
use Rattle.epoch_laws.specs.BornLines.{BornLine, unborn}
use Rattle.epoch_engine.specs.Work.{work, work_with}

-- the event of one number on a stream, at a time
abbrev heard : ℕ → ℕ → ℕ → Heard
heard stream n at = record { stream = stream; tuple = record { vals = value.Int (pos n) ∷ []; from = at; at = at } }

-- S with a > 7, and then a tuple of T with the same number, as a sequence or as an iteration
abbrev hop : Option Turn → Hop
hop fold = record {
  step = Keep (Test (Event 0) cmp.Gt (Lit (value.Int (pos 7))) ∷ []) ∷ [];
  wait = record { stream = 1; choose = Test (Event 0) cmp.Eq (Binding 0) ∷ []; fold = fold };
}

-- what comes of it is kept where DUR < 9
abbrev line : Option Turn → BornLine
line fold = unborn (record { root = 0; hops = hop fold ∷ []; last = Keep (Test Dur cmp.Lt (Lit (value.Int (pos 9))) ∷ []) ∷ []; out = 2 })

-- its two states
abbrev states : Option Turn → List Prefix
states fold = Root 0 ∷ After (Root 0) (hop fold) ∷ []

-- an iteration that goes on
abbrev turn : Turn
turn = record { on = []; set = record { width = 1; parts = Event 0 ∷ [] } }

-- S brings 8, 6 and 9 at the time 1, and T brings 8 at the time 2
abbrev history : List Heard
history = heard 0 8 1 ∷ heard 0 6 1 ∷ heard 0 9 1 ∷ heard 1 8 2 ∷ []

-- at the time 1 the step behind the root is looked up by 8 and by 9, which have one test each
pub two_are_looked_up : work (states None) (line None ∷ []) (2 ∷ []) history 1 ≡ 2
two_are_looked_up = refl

-- at the time 2 the tuple of T has two tests with the binding of its number and none with the other, and what comes of it one on the last step
pub one_has_the_key : work (states None) (line None ∷ []) (2 ∷ []) history 2 ≡ 3
one_has_the_key = refl

-- in a FOLD it has three with that binding
pub fold_has_one_more : work (states (Some turn)) (line (Some turn) ∷ []) (2 ∷ []) history 2 ≡ 4
fold_has_one_more = refl

-- two equal lines share both states and have an end each
pub ends_are_counted_apart : work (states None) (line None ∷ line None ∷ []) (2 ∷ []) history 2 ≡ 4
ends_are_counted_apart = refl

-- where no more is stored than the binding of the other number, the tuple of T has no test with it, and what comes of it has one still
pub fewer_bindings_have_fewer_tests : work_with (states None) (line None ∷ []) (2 ∷ []) (λ prefix. record { vals = value.Int (pos 9) ∷ []; from = 1; at = 1 } ∷ []) history 2 ≡ 1
fewer_bindings_have_fewer_tests = refl

-- S, and then a tuple of T with a number above 7
abbrev guarded : BornLine
guarded = unborn (record { root = 0; hops = record { step = []; wait = record { stream = 1; choose = Test (Event 0) cmp.Gt (Lit (value.Int (pos 7))) ∷ []; fold = None } } ∷ []; last = []; out = 2 })

abbrev guarded_states : List Prefix
guarded_states = Root 0 ∷ After (Root 0) (record { step = []; wait = record { stream = 1; choose = Test (Event 0) cmp.Gt (Lit (value.Int (pos 7))) ∷ []; fold = None } }) ∷ []

-- S brings 8 and 9 at the time 1, and T brings one number at the time 2
abbrev two_wait : ℕ → List Heard
two_wait n = heard 0 8 1 ∷ heard 0 9 1 ∷ heard 1 n 2 ∷ []

-- the wait isn't looked up by 6: no binding is tested
pub wait_is_not_looked_up : work guarded_states (guarded ∷ []) (2 ∷ []) (two_wait 6) 2 ≡ 0
wait_is_not_looked_up = refl

-- it is by 8, which has two tests with each binding, since the wait has no key
pub without_a_key_all_are_tested : work guarded_states (guarded ∷ []) (2 ∷ []) (two_wait 8) 2 ≡ 4
without_a_key_all_are_tested = refl

-- and with one of them where one is stored
pub stored_bindings_are_tested : work_with guarded_states (guarded ∷ []) (2 ∷ []) (λ prefix. record { vals = value.Int (pos 9) ∷ []; from = 1; at = 1 } ∷ []) (two_wait 8) 2 ≡ 2
stored_bindings_are_tested = refl

-- the stream that the first line publishes, where the first number is above 7
abbrev over_the_first : BornLine
over_the_first = unborn (record { root = 2; hops = []; last = Keep (Test (Event 0) cmp.Gt (Lit (value.Int (pos 7))) ∷ []) ∷ []; out = 3 })

-- its tuple of the time 2 has a test beside the three of the first line
pub derived_tuple_is_tested : work (Root 0 ∷ After (Root 0) (hop None) ∷ Root 2 ∷ []) (line None ∷ over_the_first ∷ []) (2 ∷ 3 ∷ []) history 2 ≡ 4
derived_tuple_is_tested = refl
