-- A merge follows the turns over the lines of its files.
use Rattle.std.proofs.Common.{◌≡◌, ◌∙◌, sym, ap, refl, subst, ℕ, Bool, true, false, List, [], ◌∷◌, Option, Some, None, Result, Ok, Err, slice_get}
use Rattle.std.specs.Prelude.{if◌then◌else◌}
use Rattle.event_csv.specs.declared.event.Seen.{Seen}
use Rattle.event_csv.specs.declared.fault.LineFault.{LineFault}
use Rattle.source_merge.specs.declared.source.Source.{Source}
use Rattle.source_merge.specs.Merging.{Merging, late_in, with_event, without_turn}
use Rattle.source_merge.specs.Ranks.{Taken}
use Rattle.source_merge.specs.Sources.{bound, is_late, turn_in}
use Rattle.source_merge.specs.Standing.{StandsBehind, StandsBetween}
use Rattle.source_merge.specs.Turns.{Between, Goes, Input, IsLate, SourceLine, Stops, Waits, after_event, lines_left, next_lines, next_turn, turn_at, turn_of_input, turn_of_line}
use Rattle.source_merge.proofs.GrowingLemmas.{none_there, turn_there}
use Rattle.source_merge.proofs.StandingLemmas.{ended_stands, taken_stands}

-- two turns that are one and go, lead to one state of the files
goes_alike : (b c : Between) → Goes b ≡ Goes c → b ≡ c
goes_alike b c e = cc

left_there : (b : Between) (turn : ℕ × Source) (input : Input) → slice_get b.inputs turn.0 ≡ Some input → lines_left b (Some turn) ≡ input.left
left_there b turn input is = rw is refl

-- a merge before the turn of a file
module _ (m : Merging) (b : Between) (given : List Taken) (stands : StandsBetween m b given) (turn : ℕ × Source) (is : turn_in b.sources ≡ Some turn) where
  -- a turn that goes takes the event of its line
  line_followed : (rest : Input) (number : ℕ) (found : Result Seen LineFault) (more : List SourceLine) (next : Between) → turn_of_line m.slack b turn rest (record { number = number; found = found }) ≡ Goes next
      → StandsBehind m next given (record { number = number; found = found } ∷ more)
  line_followed rest number (Err why) more next goes = cc
  line_followed rest number (Ok seen) more next goes = go (is_late m.slack turn.1 seen.tuple.at) refl goes
    where
      go : (late : Bool) → is_late m.slack turn.1 seen.tuple.at ≡ late → (if late then Stops turn.0 number (IsLate seen.tuple.at (bound m.slack turn.1.greatest)) else Goes (after_event b turn rest seen)) ≡ Goes next
          → StandsBehind m next given (record { number = number; found = Ok seen } ∷ more)
      go true late goes = cc
      go false late goes = (
        seen,
        refl,
        ap (λ t. late_in m.slack t seen.tuple.at) (ap turn_in stands.sources ∙ is) ∙ late,
        subst (λ n. StandsBetween (with_event m seen) n given) (goes_alike (after_event b turn rest seen) next goes) (taken_stands m b given seen turn rest stands is late),
      )

  -- and where no line is left, the file ends
  input_followed : (left : List SourceLine) (whole : Bool) (next : Between) → turn_of_input m.slack b turn (record { left = left; whole = whole }) ≡ Goes next → StandsBehind m next given left
  input_followed [] true next goes = subst (λ n. StandsBetween (without_turn m) n given) (goes_alike _ next goes) (ended_stands m b given turn stands is)
  input_followed [] false next goes = cc
  input_followed (line ∷ more) whole next goes = line_followed (record { left = more; whole = whole }) line.number line.found more next goes

pub turns_are_followed : (m : Merging) (b next : Between) (given : List Taken) → StandsBetween m b given → next_turn m.slack b ≡ Goes next → StandsBehind m next given (next_lines b)
turns_are_followed m b next given stands goes = by_turn (turn_in b.sources) refl goes
  where
    by_input : (turn : ℕ × Source) → turn_in b.sources ≡ Some turn → (o : Option Input) → slice_get b.inputs turn.0 ≡ o → turn_at m.slack b (Some turn) ≡ Goes next → StandsBehind m next given (lines_left b (Some turn))
    by_input turn is None at goes = absurd (waits (sym (none_there m.slack b turn at) ∙ goes))
      where
        waits : Waits turn.0 ≡ Goes next → ⊥
        waits e = cc
    by_input turn is (Some input) at goes =
        subst (StandsBehind m next given) (sym (left_there b turn input at)) (input_followed m b given stands turn is input.left input.whole next (sym (turn_there m.slack b turn input at) ∙ goes))

    by_turn : (turn : Option (ℕ × Source)) → turn_in b.sources ≡ turn → turn_at m.slack b turn ≡ Goes next → StandsBehind m next given (lines_left b turn)
    by_turn None is goes = cc
    by_turn (Some turn) is goes = by_input turn is (slice_get b.inputs turn.0) refl goes
