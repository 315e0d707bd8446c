-- What lines give over sound streams is sound.
use Rattle.std.proofs.Common.{sym, subst, ℕ, ◌+◌, ◌≤◌, ◌==◌, nat_lt, Bool, true, false, cond, List, [], ◌∷◌, arith}
use Rattle.std.specs.Prelude.{Option}
use Rattle.std.specs.List.{All, filter, filter_map}
use Rattle.std.proofs.lemmas.List.Elements.{All-nil, All-cons, All-filter, All-head, All-map, All-tail}
use Rattle.event_types.specs.Tuple.{TupleView, IsSound}
use Rattle.semantics.specs.Births.{is_after, streams_after}
use Rattle.semantics.specs.Denotation.{Streams}
use Rattle.semantics.specs.Histories.{Event, heard_on}
use Rattle.semantics.specs.Programs.{declared_streams, with_stream}
use Rattle.semantics.specs.Scalars.{Pr}
use Rattle.semantics.proofs.ListLemmas.{All-flat_map, every}
use Rattle.automaton.specs.Flow.{entering, flow, given}
use Rattle.automaton.specs.Prefixes.{Prefix, Root, After, path}
use Rattle.automaton.specs.Steps.{pass}
use Rattle.automaton.specs.Waits.{chosen}
use Rattle.automaton.specs.declared.line.Line.{Line}
use Rattle.automaton.specs.declared.step.Stage.{Stage}
use Rattle.automaton.specs.declared.wait.Turn.{Turn}
use Rattle.epoch_laws.specs.Births.{AreSound}
use Rattle.epoch_laws.specs.BornLines.{BornLine}
use Rattle.epoch_laws.specs.InstanceFlow.{completed_after, derived_after, given_after}
use Rattle.epoch_laws.specs.Times.{IsPast}
use Rattle.epoch_laws.proofs.Flows.{pass_past}
use Rattle.epoch_laws.proofs.Folds.{sound_past}
use Rattle.epoch_laws.proofs.InstanceFlows.{given_later}
use Rattle.epoch_laws.proofs.Waits.{chosen_past}

-- a time by which all tuples of a list are detected
abbrev latest : List TupleView → ℕ
latest [] = 0
latest (tuple ∷ tuples) = tuple.at + latest tuples

-- sound tuples are past then
past_then : (time : ℕ) (tuples : List TupleView) → latest tuples ≤ time → All IsSound tuples → All (IsPast time) tuples
past_then time [] late sound = All-nil (IsPast time)
past_then time (tuple ∷ tuples) late sound =
    let by : tuple.at ≤ time = omega (arith, late) in
    let later : latest tuples ≤ time = omega (arith, late) in
    All-cons (IsPast time) tuple tuples (All-head IsSound tuple tuples sound, by) (past_then time tuples later (All-tail IsSound tuple tuples sound))

-- what passes a step is as sound as what comes to it
pass_sound : (step : List Stage) (tuples : List TupleView) → All IsSound tuples → All IsSound (filter_map (pass step) tuples)
pass_sound step tuples sound =
    let time = latest tuples in
    let by : time ≤ time = omega arith in sound_past time (filter_map (pass step) tuples) (pass_past time step tuples (past_then time tuples by sound))

-- and so is what is chosen
chosen_sound : (choose : List Pr) (turn : Option Turn) (tuples bindings : List TupleView) → All IsSound tuples → All IsSound bindings → All IsSound (chosen choose turn tuples bindings)
chosen_sound choose turn tuples bindings sound bound =
    let time = latest tuples + latest bindings in
    let left : latest tuples ≤ time = omega arith in
    let right : latest bindings ≤ time = omega arith in
    sound_past time (chosen choose turn tuples bindings) (chosen_past time choose tuples (past_then time tuples left sound) turn bindings (past_then time bindings right bound))

module _ (streams : Streams) (sound : AreSound streams) where
  -- so what flows is sound
  flow_sound : (prefix : Prefix) → All IsSound (flow streams prefix)
  flow_sound (Root stream) = sound stream
  flow_sound (After prefix hop) =
      chosen_sound hop.wait.choose hop.wait.fold (streams hop.wait.stream) (entering hop (flow streams prefix)) (sound hop.wait.stream) (pass_sound hop.step (flow streams prefix) (flow_sound prefix))

  -- and what lines give
  pub given_sound : (line : Line) → All IsSound (given streams line)
  given_sound line = pass_sound line.last (flow streams (path line)) (flow_sound (path line))

  -- streams that are cut at a birth are sound
  pub after_sound : (birth : Option ℕ) → AreSound (streams_after birth streams)
  after_sound birth stream = All-filter (λ tuple. is_after birth tuple.at) IsSound (streams stream) (sound stream)

  -- and so are streams with a sound one more
  pub with_sound : (number : ℕ) (tuples : List TupleView) → All IsSound tuples → AreSound (with_stream streams number tuples)
  with_sound number tuples all stream = go (stream == number)
    where
      go : (b : Bool) → All IsSound (cond b tuples (streams stream))
      go true = all
      go false = sound stream

-- what lines give after their births is sound
pub derived_sound : (lines : List BornLine) (streams : Streams) → AreSound streams → (stream : ℕ) → All IsSound (derived_after lines streams stream)
derived_sound lines streams sound stream = All-flat_map IsSound (given_after streams) own (every (λ born. All IsSound (given_after streams born)) one own)
  where
    own : List BornLine
    own = filter (λ born. born.line.out == stream) lines

    one : (born : BornLine) → All IsSound (given_after streams born)
    one born =
        subst (λ tuples. All IsSound tuples) (sym (given_later streams sound born)) (given_sound (streams_after born.birth streams) (after_sound streams sound born.birth) born.line)

-- so all streams of lines with births are sound: by induction on the order
pub completed_sound : (lines : List BornLine) (order : List ℕ) (streams : Streams) → AreSound streams → AreSound (completed_after lines order streams)
completed_sound lines [] streams sound = sound
completed_sound lines (stream ∷ order) streams sound =
    let tuples = derived_after lines streams stream in
    completed_sound lines order (with_stream streams stream tuples) (with_sound streams sound stream tuples (derived_sound lines streams sound stream))

-- what is heard of sound events is sound
pub declared_sound : (declared : ℕ) (history : List Event) → All (λ event. IsSound event.tuple) history → AreSound (declared_streams declared history)
declared_sound declared history all stream = go (nat_lt stream declared)
  where
    go : (b : Bool) → All IsSound (cond b (heard_on history stream) [])
    go true =
        All-map IsSound (λ (event : Event). event.tuple) (filter (λ event. event.stream == stream) history) (All-filter (λ event. event.stream == stream) (λ (event : Event). IsSound event.tuple) history all)
    go false = All-nil IsSound
