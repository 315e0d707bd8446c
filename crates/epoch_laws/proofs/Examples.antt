-- Examples of one epoch at one wait, and of what flows after a birth, each worked out by hand. No contract cites them.
use Rattle.std.proofs.Common.{◌≡◌, refl, ℕ, pos, List, [], ◌∷◌, map}
use Rattle.std.specs.Prelude.{Option, Some, None}
use Rattle.event_types.specs.declared.comparison.Cmp.TheVariants as cmp
use Rattle.event_types.specs.declared.value.Value.TheVariants as value
use Rattle.event_types.specs.Tuple.{TupleView}
use Rattle.instances.specs.declared.instance.Instance.{Instance}
use Rattle.semantics.specs.Denotation.{Streams, streams_of}
use Rattle.semantics.specs.Scalars.{Lit, Event, Dur, Test}
use Rattle.automaton.specs.Prefixes.{After, Root}
use Rattle.automaton.specs.declared.line.Hop.{Hop}
use Rattle.automaton.specs.declared.wait.Turn.{Turn}
use Rattle.epoch_laws.specs.Epochs.{stepped, took}
use Rattle.epoch_laws.specs.BornLines.{BornLine}
use Rattle.epoch_laws.specs.InstanceFlow.{derived_after, flow_instances, given_after, waiting_instances}
use Rattle.epoch_laws.specs.Instances.{began, begins, instances_entering}

-- the tuple of one number with these times
abbrev tuple : ℕ → ℕ → ℕ → TupleView
tuple n from at = record { vals = value.Int (pos n) ∷ []; from = from; at = at }

-- the tuple of two numbers with these times
abbrev pair : ℕ → ℕ → ℕ → ℕ → TupleView
pair m n from at = record { vals = value.Int (pos m) ∷ value.Int (pos n) ∷ []; from = from; at = at }

-- the tuple of three numbers with these times
abbrev triple : ℕ → ℕ → ℕ → ℕ → ℕ → TupleView
triple l m n from at = record { vals = value.Int (pos l) ∷ value.Int (pos m) ∷ value.Int (pos n) ∷ []; from = from; at = at }

-- one binding waits, from the time 1
abbrev waiting : List Instance
waiting = map begins (tuple 1 1 1 ∷ [])

-- NEXT {} with a stream
abbrev next : ℕ → Hop
next stream = record { step = []; wait = record { stream = stream; choose = []; fold = None } }

-- FOLD {.., DUR < most, $2.a AS a}
abbrev turn : ℕ → Turn
turn most = record { on = Test Dur cmp.Lt (Lit (value.Int (pos most))) ∷ []; set = record { width = 1; parts = Event 0 ∷ [] } }

-- each of two equal tuples is joined with the binding, and one that starts at the binding's detection isn't
pub both_are_joined : took [] None (tuple 7 2 2 ∷ tuple 8 1 2 ∷ tuple 7 2 2 ∷ []) waiting ≡ map (began 1) (pair 1 7 1 2 ∷ pair 1 7 1 2 ∷ [])
both_are_joined = refl

-- a binding for which no tuple is eligible is kept, beside the one that enters
pub unmet_is_kept : stepped [] None (tuple 8 1 2 ∷ []) (map begins (tuple 9 2 2 ∷ [])) waiting ≡ began 1 (tuple 1 1 1) ∷ began 2 (tuple 9 2 2) ∷ []
unmet_is_kept = refl

-- a binding with an eligible tuple isn't
pub met_is_gone : stepped [] None (tuple 7 2 2 ∷ []) [] waiting ≡ []
met_is_gone = refl

-- in a FOLD it goes on as the new binding where the go-on condition holds
pub fold_goes_on : stepped [] (Some (turn 2)) (tuple 7 2 2 ∷ []) [] waiting ≡ began 1 (tuple 7 1 2) ∷ []
fold_goes_on = refl

-- and ends without a result where it doesn't
pub fold_ends : took [] (Some (turn 1)) (tuple 7 2 2 ∷ []) waiting ≡ []
fold_ends = refl

-- the store at the second wait of S NEXT T NEXT U, once a tuple of S came at 1 and one of T at 2
abbrev second : List Instance
second = stepped [] None [] (instances_entering (next 2) (took [] None (tuple 7 2 2 ∷ []) (stepped [] None [] (instances_entering (next 1) waiting) []))) []

-- what leaves it with a tuple of U at 3 began with the tuple of S
pub first_is_kept : took [] None (tuple 8 3 3 ∷ []) second ≡ began 1 (triple 1 7 8 1 3) ∷ []
first_is_kept = refl

-- S has tuples at 1 and at 3, T one at 4
abbrev heard : Streams
heard = streams_of ((tuple 1 1 1 ∷ tuple 2 3 3 ∷ []) ∷ (tuple 8 4 4 ∷ []) ∷ [])

-- the line of these hops behind S, with a birth
abbrev line : List Hop → Option ℕ → BornLine
line hops birth = record { line = record { root = 0; hops = hops; last = []; out = 2 }; birth = birth }

-- each match of S NEXT T began with its own tuple of S
pub matches_keep_their_begin : flow_instances heard (After (Root 0) (next 1)) ≡ began 1 (pair 1 8 1 4) ∷ began 3 (pair 2 8 3 4) ∷ []
matches_keep_their_begin = refl

-- T has one at 2 in place of it
abbrev met : Streams
met = streams_of ((tuple 1 1 1 ∷ tuple 2 3 3 ∷ []) ∷ (tuple 7 2 2 ∷ []) ∷ [])

-- FOLD with T
abbrev folding : Hop
folding = record { step = []; wait = record { stream = 1; choose = []; fold = Some (turn 9) } }

-- the tuple that came at 3 waits, the one that was met at 2 doesn't
pub unmet_waits : waiting_instances met (Root 0) (next 1) ≡ began 3 (tuple 2 3 3) ∷ []
unmet_waits = refl

-- but in a FOLD the new binding does, which began at 1
pub new_binding_waits : waiting_instances met (Root 0) folding ≡ began 1 (tuple 7 1 2) ∷ began 3 (tuple 2 3 3) ∷ []
new_binding_waits = refl

-- after a birth at 2 the match that began at 1 isn't given, though it was made at 4
pub begun_before_is_cut : given_after heard (line (next 1 ∷ []) (Some 2)) ≡ pair 2 8 3 4 ∷ []
begun_before_is_cut = refl

-- three queries read one flow, each from its own birth on
pub each_reads_from_its_birth : derived_after (line (next 1 ∷ []) None ∷ line (next 1 ∷ []) (Some 3) ∷ line (next 1 ∷ []) (Some 2) ∷ []) heard 2 ≡ pair 1 8 1 4 ∷ pair 2 8 3 4 ∷ pair 2 8 3 4 ∷ []
each_reads_from_its_birth = refl

-- the detection decides and not the start, and what is detected at the birth isn't read
pub detection_decides : given_after (streams_of ((tuple 9 1 3 ∷ tuple 8 1 2 ∷ []) ∷ [])) (line [] (Some 2)) ≡ tuple 9 1 3 ∷ []
detection_decides = refl

-- a FOLD that began at 1 is cut with all that it goes on to
pub fold_is_cut : given_after heard (line (folding ∷ []) (Some 2)) ≡ tuple 8 3 4 ∷ []
fold_is_cut = refl
