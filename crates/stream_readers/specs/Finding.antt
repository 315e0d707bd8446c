-- What the look-ups by a tuple of a stream have to find.
use Rattle.std.specs.Prelude.{◌≡◌, ℕ, ◌<◌, ◌≢◌, ◌&&◌, ◌⊎◌, AllPairs, Bool, not, false, true, List, [], ◌++◌, length, Some, None, slice_index_or}
use Rattle.std.specs.Option.{option_map}
use Rattle.std.specs.List.{All, filter, flat_map, range_with_len}
use Rattle.std.specs.List.Sorted.{IsPermutation}
use Rattle.event_types.specs.Tuple.{TupleView}
use Rattle.instances.specs.Keys.{Key}
use Rattle.semantics.specs.Nexts.{is_eligible}
use Rattle.semantics.specs.Values.{value_at}
use Rattle.automaton.specs.States.{Net, root_at, step_at, tells, wait_at}
use Rattle.automaton.specs.Steps.{pass}
use Rattle.automaton.specs.declared.wait.Wait.{Wait}
use Rattle.binding_index.specs.Leads.{Entries, Leads, states_at}
use Rattle.static_index.specs.FixedParts.{all_hold}
use Rattle.stream_readers.specs.KeyTables.{KeyTable, entries_at}
use Rattle.stream_readers.specs.Leading.{is_at, is_keyed, lead_key_at}
use Rattle.stream_readers.specs.Targets.{IsTarget, way_of}
use Rattle.stream_readers.specs.Ways.{Back, Into, MeetsParts, Out, Way, is_state_looked_up, parts_at, ways_at}
use Rattle.stream_readers.specs.declared.target.Target.{Target}

-- whether a state is a root of a stream
abbrev pub is_root_on : Net → ℕ → ℕ → Bool
is_root_on net stream number = tells stream (root_at net number)

-- whether a state waits on a stream
abbrev pub is_wait_on : Net → ℕ → ℕ → Bool
is_wait_on net stream number = tells stream (option_map (λ wait. wait.stream) (wait_at net number))

-- the ways out of the roots of a stream
abbrev pub ways_on : Net → ℕ → List Way
ways_on net stream = flat_map (ways_at net) (filter (is_root_on net stream) (range_with_len 0 (length net)))

-- the states that wait on a stream
abbrev pub waits_on : Net → ℕ → List ℕ
waits_on net stream = filter (is_wait_on net stream) (range_with_len 0 (length net))

-- nothing comes of the tuple on a way
abbrev pub IsSilent : Net → TupleView → Way → Type 0
IsSilent net tuple (Into next) = pass (step_at net next) tuple ≡ None
IsSilent net tuple (Out end) = pass end.step tuple ≡ None
IsSilent net tuple (Back number) = ⊥

-- the tuple is eligible for no binding at a state
abbrev pub IsDeaf : Net → TupleView → ℕ → Type 0
IsDeaf net tuple number = (wait : Wait) → wait_at net number ≡ Some wait → (binding : TupleView) → is_eligible wait.choose binding tuple ≡ false

-- the targets are ways out of the roots of a stream whose first fixed parts all hold for the tuple, each as often as it stands there, and nothing comes of the tuple on the others
pub record FindsWays (net : Net) (stream : ℕ) (tuple : TupleView) (found : List Target) : Type 0 where
  pub are : All (IsTarget net) found
  pub others : List Way
  pub all : IsPermutation (flat_map (way_of net) found ++ others) (ways_on net stream)
  pub silent : All (IsSilent net tuple) others
  pub met : All (MeetsParts net tuple) (flat_map (way_of net) found)

-- whether a state waits on a stream without a key to find it
abbrev pub is_plain_on : Net → ℕ → ℕ → Bool
is_plain_on net stream number = is_wait_on net stream number && not (is_keyed net number)

-- whether a state waits on a stream and is found by a key
abbrev pub is_keyed_on : Net → ℕ → ℕ → Bool
is_keyed_on net stream number = is_wait_on net stream number && is_keyed net number

-- the states that wait on a stream without a key to find them
abbrev pub plain_waits_on : Net → ℕ → List ℕ
plain_waits_on net stream = filter (is_plain_on net stream) (range_with_len 0 (length net))

-- the states that wait on a stream and are found by a key
abbrev pub keyed_waits_on : Net → ℕ → List ℕ
keyed_waits_on net stream = filter (is_keyed_on net stream) (range_with_len 0 (length net))

-- the numbers are those of states that wait on a stream without a key to find them and are looked up by the tuple, each once, and the tuple is eligible for no binding at the others
pub record FindsPlain (net : Net) (stream : ℕ) (tuple : TupleView) (found : List ℕ) : Type 0 where
  pub others : List ℕ
  pub all : IsPermutation (found ++ others) (plain_waits_on net stream)
  pub deaf : All (IsDeaf net tuple) others
  pub looked_up : All (λ number. is_state_looked_up net tuple number ≡ true) found

-- whether a state waits on a stream, its fixed parts all hold for a tuple, and it is found by its key at an attribute
abbrev pub is_found_by : Net → ℕ → TupleView → ℕ → ℕ → Bool
is_found_by net stream tuple attribute number = is_wait_on net stream number && all_hold tuple (parts_at net number) && is_at attribute (lead_key_at net number)

-- the states to which the value of a tuple of a stream at an attribute leads, and which are found so
abbrev pub led_at : Net → ℕ → List Entries → TupleView → ℕ → List ℕ
led_at net stream columns tuple attribute = filter (is_found_by net stream tuple attribute) (states_at (slice_index_or columns attribute []) (value_at tuple attribute))

-- the same of the first so many attributes
abbrev pub led_by : Net → ℕ → List Entries → TupleView → ℕ → List ℕ
led_by net stream columns tuple attributes = flat_map (led_at net stream columns tuple) (range_with_len 0 attributes)

-- the value of a tuple at each of the first so many attributes leads to no state twice
abbrev pub LeadOnce : List Entries → TupleView → ℕ → Type 0
LeadOnce columns tuple attributes = (attribute : ℕ) → attribute < attributes → AllPairs (λ state other. state ≢ other) (states_at (slice_index_or columns attribute []) (value_at tuple attribute))

-- the value of a tuple doesn't lead to a state, at the attribute by which the state is found
abbrev pub IsUnled : Net → KeyTable → ℕ → TupleView → ℕ → Type 0
IsUnled net table stream tuple number =
    (key : Key) → lead_key_at net number ≡ Some key → key.event < length tuple.vals → Leads (entries_at table stream key.event) (value_at tuple key.event) number → ⊥

-- numbers of states that wait on a stream, are found by a key and are looked up by the tuple were put behind others, each once; a state was left out only where the tuple's value doesn't lead to it or a fixed part of its condition doesn't hold
pub record FindsKeyed (net : Net) (table : KeyTable) (stream : ℕ) (tuple : TupleView) (old new : List ℕ) : Type 0 where
  pub found : List ℕ
  pub are : new ≡ old ++ found
  pub others : List ℕ
  pub all : IsPermutation (found ++ others) (keyed_waits_on net stream)
  pub left_out : All (λ number. (all_hold tuple (parts_at net number) ≡ false) ⊎ IsUnled net table stream tuple number) others
  pub looked_up : All (λ number. is_state_looked_up net tuple number ≡ true) found
