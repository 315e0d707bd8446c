-- The tests of conditions that the closing of an epoch asks for, over lines and a history.
use Rattle.std.specs.Prelude.{ℕ, ◌+◌, List, [], Option, Some, None, sum_by}
use Rattle.std.specs.List.{filter}
use Rattle.event_types.specs.Tuple.{TupleView}
use Rattle.semantics.specs.Denotation.{Streams}
use Rattle.semantics.specs.Histories.{Event, upto}
use Rattle.semantics.specs.Scalars.{Pr}
use Rattle.instances.specs.Keys.{key_matches}
use Rattle.binding_index.specs.KeyParts.{first_key}
use Rattle.static_index.specs.FixedParts.{first_holds, fixed_parts}
use Rattle.static_index.specs.declared.fixed_part.FixedPart.{FixedPart}
use Rattle.automaton.specs.Flow.{flow}
use Rattle.automaton.specs.Prefixes.{Prefix, Root, After, path}
use Rattle.automaton.specs.Waiting.{waiting}
use Rattle.automaton.specs.declared.line.Line.{Line}
use Rattle.automaton.specs.declared.step.Stage.{Stage}
use Rattle.automaton.specs.declared.wait.Turn.{Turn}
use Rattle.automaton.specs.declared.wait.Wait.{Wait}
use Rattle.stream_readers.specs.Ways.{first_parts}
use Rattle.epoch_laws.specs.BornLines.{BornLine, lines_in}
use Rattle.epoch_laws.specs.Histories.{events_before, streams_over}
use Rattle.epoch_laws.specs.Times.{during}
use Rattle.epoch_draft.specs.Work.{keeps}

-- the tuples by which what has these fixed parts is looked up: the first part holds for them, or there is none
abbrev pub looking_up : List FixedPart → List TupleView → List TupleView
looking_up parts tuples = filter (λ tuple. first_holds tuple parts) tuples

-- the tuples of an epoch that come to a step behind a prefix: behind a root those by which the step is looked up, behind a wait all that flow out of it
abbrev pub coming_to : ℕ → Streams → Prefix → List Stage → List TupleView
coming_to time streams (Root stream) step = looking_up (first_parts step) (during time (streams stream))
coming_to time streams (After prefix hop) step = during time (flow streams (After prefix hop))

-- the tests on the step: each such tuple has one for each condition that it is kept by
abbrev pub step_tests : ℕ → Streams → Prefix → List Stage → ℕ
step_tests time streams prefix step = sum_by (λ tuple. keeps step) (coming_to time streams prefix step)

-- the tests of a tuple with a binding: two, and in a FOLD three; by one of these the binding is taken out where it was matched
abbrev pub pair_tests : Option Turn → ℕ
pair_tests None = 2
pair_tests (Some turn) = 3

-- the bindings that a tuple may match as far as the first key part tells
abbrev pub keyed_bindings : List Pr → TupleView → List TupleView → List TupleView
keyed_bindings choose tuple bindings = filter (key_matches (first_key choose) tuple) bindings

-- the tests at a wait where these bindings are: each tuple of the epoch by which the wait is looked up has them with each binding that it may match
abbrev pub wait_tests : ℕ → Streams → Wait → List TupleView → ℕ
wait_tests time streams wait bindings =
    sum_by (λ tuple. sum_by (λ binding. pair_tests wait.fold) (keyed_bindings wait.choose tuple bindings)) (looking_up (fixed_parts wait.choose) (during time (streams wait.stream)))

-- the tests for a state: on the forward edge that leads into it, and at its wait; a root has neither
abbrev pub state_tests : ℕ → Streams → (Prefix → List TupleView) → Prefix → ℕ
state_tests time streams stored (Root stream) = 0
state_tests time streams stored (After prefix hop) = step_tests time streams prefix hop.step + wait_tests time streams hop.wait (stored (After prefix hop))

-- the tests for the end of a line: on its last step
abbrev pub end_tests : ℕ → Streams → Line → ℕ
end_tests time streams line = step_tests time streams (path line) line.last

-- the tests that the epoch of a time asks for over the events by then, where these bindings are at each state: for all states, which are the prefixes of the lines, each once, and for all ends
abbrev pub work_with : List Prefix → List BornLine → List ℕ → (Prefix → List TupleView) → List Event → ℕ → ℕ
work_with states lines order stored history time = let streams = streams_over lines order (upto time history) in sum_by (state_tests time streams stored) states + sum_by (end_tests time streams) (lines_in lines)

-- the bindings that wait at the state of a prefix after a history; at a root none waits
abbrev pub waiting_over : List BornLine → List ℕ → List Event → Prefix → List TupleView
waiting_over lines order history (Root stream) = []
waiting_over lines order history (After prefix hop) = waiting (streams_over lines order history) prefix hop

-- the tests that the epoch of a time asks for, where exactly those bindings are at each state that wait there after the events before the time
abbrev pub work : List Prefix → List BornLine → List ℕ → List Event → ℕ → ℕ
work states lines order history time = work_with states lines order (waiting_over lines order (events_before time history)) history time
