-- What lines give over streams that are cut at a birth is detected after it.
use Rattle.std.proofs.Common.{◌≡◌, sym, subst, ℕ, ◌==◌, true, List, [], ◌∷◌}
use Rattle.std.specs.Prelude.{Option, Some, None}
use Rattle.std.specs.List.{All, cons_option, filter, filter_map}
use Rattle.std.proofs.lemmas.List.Elements.{All-nil, All-cons, All-head, All-tail}
use Rattle.event_types.specs.Tuple.{TupleView}
use Rattle.semantics.specs.Births.{is_after, streams_after}
use Rattle.semantics.specs.Denotation.{Streams, matches}
use Rattle.semantics.specs.Runs.{runs}
use Rattle.semantics.specs.Scalars.{Pr}
use Rattle.semantics.proofs.BirthLemmas.{after_is_late, matches_then, runs_then}
use Rattle.semantics.proofs.ListLemmas.{All-flat_map, every}
use Rattle.automaton.specs.Flow.{derived, entering, flow, given}
use Rattle.automaton.specs.Prefixes.{Prefix, Root, After, path}
use Rattle.automaton.specs.Steps.{pass}
use Rattle.automaton.specs.Waits.{chosen}
use Rattle.automaton.specs.declared.line.Line.{Line}
use Rattle.automaton.specs.declared.step.Stage.{Stage}
use Rattle.automaton.specs.declared.wait.Turn.{Turn}
use Rattle.epoch_laws.proofs.Flows.{Timed, pass_timed}

-- a time after the birth
abbrev IsAfter : Option ℕ → ℕ → Type 0
IsAfter birth time = is_after birth time ≡ true

-- a tuple that is detected after the birth
abbrev pub IsLate : Option ℕ → TupleView → Type 0
IsLate birth tuple = IsAfter birth tuple.at

module _ (birth : Option ℕ) where
  -- a step changes no detection time
  pass_late : (step : List Stage) (tuples : List TupleView) → All (IsLate birth) tuples → All (IsLate birth) (filter_map (pass step) tuples)
  pass_late step [] all = All-nil (IsLate birth)
  pass_late step (tuple ∷ tuples) all =
      go (pass_late step tuples (All-tail (IsLate birth) tuple tuples all)) (pass step tuple) (pass_timed step tuple)
    where
      go : All (IsLate birth) (filter_map (pass step) tuples) → (o : Option TupleView) → Timed tuple o → All (IsLate birth) (cons_option o (filter_map (pass step) tuples))
      go rest None timed = rest
      go rest (Some passed) timed = All-cons (IsLate birth) passed (filter_map (pass step) tuples) (subst (IsAfter birth) (sym timed.0) (All-head (IsLate birth) tuple tuples all)) rest

  -- what is chosen is detected as the tuples of the stream are
  chosen_late : (choose : List Pr) (turn : Option Turn) (tuples bindings : List TupleView) → All (IsLate birth) tuples → All (IsLate birth) (chosen choose turn tuples bindings)
  chosen_late choose None tuples bindings all =
      All-flat_map (IsLate birth) (matches choose tuples) bindings (every (λ b. All (IsLate birth) (matches choose tuples b)) (matches_then (IsAfter birth) choose tuples all) bindings)
  chosen_late choose (Some turn) tuples bindings all =
      let go_on = runs choose turn.on turn.set.parts tuples in
      All-flat_map (IsLate birth) go_on bindings (every (λ b. All (IsLate birth) (go_on b)) (runs_then (IsAfter birth) choose turn.on turn.set.parts tuples all) bindings)

  module _ (streams : Streams) where
    abbrev cut : Streams
    cut = streams_after birth streams

    -- so is what flows
    flow_late : (prefix : Prefix) → All (IsLate birth) (flow cut prefix)
    flow_late (Root stream) = after_is_late birth (streams stream)
    flow_late (After prefix hop) = chosen_late hop.wait.choose hop.wait.fold (cut hop.wait.stream) (entering hop (flow cut prefix)) (after_is_late birth (streams hop.wait.stream))

    -- and what a line gives
    given_late : (line : Line) → All (IsLate birth) (given cut line)
    given_late line = pass_late line.last (flow cut (path line)) (flow_late (path line))

    -- and what all lines of a stream do
    pub derived_late : (lines : List Line) (stream : ℕ) → All (IsLate birth) (derived lines cut stream)
    derived_late lines stream =
        let own = filter (λ line. line.out == stream) lines in All-flat_map (IsLate birth) (given cut) own (every (λ line. All (IsLate birth) (given cut line)) given_late own)
