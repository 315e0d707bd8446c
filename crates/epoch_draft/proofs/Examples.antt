-- Examples of the tests of a closing, each worked out by hand. No contract cites them.
use Rattle.std.proofs.Common.{◌≡◌, refl, ℕ, ◌==◌, cond, pos, List, [], ◌∷◌, map}
use Rattle.std.specs.Prelude.{Some, None}
use Rattle.event_types.specs.declared.comparison.Cmp.TheVariants as cmp
use Rattle.event_types.specs.declared.kind.Kind.TheVariants as kind
use Rattle.event_types.specs.declared.value.Value.TheVariants as value
use Rattle.event_types.specs.Tuple.{TupleView}
use Rattle.semantics.specs.Denotation.{Streams}
use Rattle.semantics.specs.Scalars.{Pr, Binding, Event, Lit, Test}
use Rattle.automaton.specs.States.{Net}
use Rattle.automaton.specs.declared.layout.Layout.{Layout}
use Rattle.automaton.specs.declared.line.Hop.{Hop}
use Rattle.automaton.specs.declared.network.Entrance.TheVariants.{Root, Waiting}
use Rattle.automaton.specs.declared.step.Stage.TheVariants.{Keep}
use Rattle.automaton.specs.declared.wait.Wait.{Wait}
use Rattle.epoch_laws.specs.Closing.{Stores}
use Rattle.epoch_laws.specs.Instances.{begins}
use Rattle.epoch_draft.specs.EpochWork.{epoch_work}

-- the tuple of one number, which is detected where it starts
abbrev tuple : ℕ → ℕ → TupleView
tuple n at = record { vals = value.Int (pos n) ∷ []; from = at; at = at }

-- the number is above 0
abbrev above_none : List Pr
above_none = Test (Event 0) cmp.Gt (Lit (value.Int (pos 0))) ∷ []

-- FILTER {n > 0} of stream 0, then a wait on the same stream
abbrev hop : Wait → Hop
hop wait = record { step = Keep above_none ∷ []; wait = wait }

-- a root on stream 0, a wait behind it, and FILTER {n > 0} of what leaves it, as stream 1
abbrev net : Wait → Net
net wait = Some (record { entrance = Root 0; edges = 1 ∷ []; ends = [] }) ∷ Some (record { entrance = Waiting 0 (hop wait); edges = []; ends = record { step = Keep above_none ∷ []; out = 1; number = 0; birth = None } ∷ [] }) ∷ []

-- stream 1 is derived
abbrev layout : Layout
layout = record { order = 1 ∷ []; outs = 1 ∷ []; kinds = (kind.Int ∷ []) ∷ (kind.Int ∷ kind.Int ∷ []) ∷ [] }

-- 7 and 8 wait, from the time 1
abbrev stores : Stores
stores number = cond (number == 1) (map begins (tuple 7 1 ∷ tuple 8 1 ∷ [])) []

-- one tuple is heard, at the time 2
abbrev heard : ℕ → Streams
heard n stream = cond (stream == 0) (tuple n 2 ∷ []) []

-- NEXT {$2.n = $1.n}
abbrev next : Wait
next = record { stream = 0; choose = Test (Event 0) cmp.Eq (Binding 0) ∷ []; fold = None }

-- FOLD {, n > 0, $2.n AS n}
abbrev fold : Wait
fold = record { stream = 0; choose = []; fold = Some (record { on = above_none; set = record { width = 1; parts = Event 0 ∷ [] } }) }

-- one test on the way in, two with the one binding of the same key, and one on the way out
pub key_spares_tests : epoch_work (net next) layout stores (heard 7) ≡ 4
key_spares_tests = refl

-- a binding for which no tuple has the key takes none
pub no_key_no_test : epoch_work (net next) layout stores (heard 9) ≡ 1
no_key_no_test = refl

-- nor does a way whose first condition fails
pub no_way_no_test : epoch_work (net next) layout stores (heard 0) ≡ 0
no_way_no_test = refl

-- in a FOLD without a key: one test on the way in, three with each of two bindings, and one on the way out for each
pub fold_tests_three_times : epoch_work (net fold) layout stores (heard 7) ≡ 9
fold_tests_three_times = refl
