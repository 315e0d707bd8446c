-- How a merge stands to the turns of its files.
use Rattle.std.specs.Prelude.{◌≡◌, ℕ, true, false, List, [], ◌∷◌, ◌++◌, Option, Some, None, Ok, length}
use Rattle.std.specs.List.{All}
use Rattle.event_csv.specs.declared.event.Seen.{Seen}
use Rattle.source_merge.specs.declared.source.Source.{Source}
use Rattle.source_merge.specs.Merging.{Merging, after_given, begun, comes_late, next_given, with_event, without_turn}
use Rattle.source_merge.specs.Ranks.{NeverFall, Taken, in_order}
use Rattle.source_merge.specs.Sources.{is_below, is_late, turn_in, watermark, with_end}
use Rattle.source_merge.specs.Turns.{Between, Goes, Input, SourceLine, after_event, before_turns, next_lines, next_turn, settled_between}

-- the watermark of a merge
abbrev pub mark_of : Merging → Option ℕ
mark_of m = watermark m.slack m.sources

-- a merge stands between two turns, where these events were given
pub record StandsBetween (m : Merging) (b : Between) (given : List Taken) : Type 0 where
  -- it has the files as they are then
  pub sources : m.sources ≡ b.sources
  -- it has counted the events that were taken
  pub counted : m.count ≡ length b.taken
  -- these are, in their order, the given ones and then the held ones
  pub ordered : in_order b.taken ≡ given ++ m.held
  -- those that were given are below the watermark
  pub below : All (λ t. is_below (mark_of m) t.0.at ≡ true) given
  -- the times of those that are held never fall
  pub rising : NeverFall m.held

-- before the first turn a new merge stands there
abbrev pub BegunStands : Type 0
BegunStands = (slack : ℕ) (inputs : List Input) → StandsBetween (begun (length inputs) slack) (before_turns inputs) []

-- after an event of the file whose turn it is that isn't late, it stands behind this turn
abbrev pub TakenStands : Type 0
TakenStands =
    (m : Merging) (b : Between) (given : List Taken) (seen : Seen) (turn : ℕ × Source) (rest : Input) → StandsBetween m b given → turn_in b.sources ≡ Some turn → is_late m.slack turn.1 seen.tuple.at ≡ false
    → StandsBetween (with_event m seen) (after_event b turn rest seen) given

-- and so after the end of that file
abbrev pub EndedStands : Type 0
EndedStands =
    (m : Merging) (b : Between) (given : List Taken) (turn : ℕ × Source) → StandsBetween m b given → turn_in b.sources ≡ Some turn → StandsBetween (without_turn m) (record { sources = with_end b.sources turn.0 turn.1; inputs = b.inputs; taken = b.taken }) given

-- a merge stands there behind a turn of the file that had these lines left: the next one has an event that isn't late, which it took; or none was left, and the file ended
abbrev pub StandsBehind : Merging → Between → List Taken → List SourceLine → Type 0
StandsBehind m next given [] = StandsBetween (without_turn m) next given
StandsBehind m next given (line ∷ more) = (seen : Seen) × (line.found ≡ Ok seen) × (comes_late m seen.tuple.at ≡ false) × StandsBetween (with_event m seen) next given

-- where the next turn goes, a merge that stands before it stands behind it by the call that the lines left ask for
abbrev pub TurnsAreFollowed : Type 0
TurnsAreFollowed = (m : Merging) (b next : Between) (given : List Taken) → StandsBetween m b given → next_turn m.slack b ≡ Goes next → StandsBehind m next given (next_lines b)

-- after an event was given, it stands where it stood
abbrev pub GivenStands : Type 0
GivenStands = (m : Merging) (b : Between) (given : List Taken) (t : Taken) → StandsBetween m b given → next_given m ≡ Some t → StandsBetween (after_given m) b (given ++ t ∷ [])

-- none of these events is below a watermark
abbrev pub AreFrom : Option ℕ → List Taken → Type 0
AreFrom mark held = All (λ t. is_below mark t.0.at ≡ false) held

-- where no event is given any more, those that were given are the settled ones, and none of the held ones is below the watermark
pub record GaveAll (m : Merging) (b : Between) (given : List Taken) : Type 0 where
  pub settled : given ≡ settled_between m.slack b
  pub held : AreFrom (mark_of m) m.held

-- so it is wherever a merge stands and gives no event
abbrev pub SettledAreGiven : Type 0
SettledAreGiven = (m : Merging) (b : Between) (given : List Taken) → StandsBetween m b given → next_given m ≡ None → GaveAll m b given

-- what comes after that isn't below the watermark: neither an event that is taken in time, nor one that is given
pub record ComeLater : Type 0 where
  pub taken : (m : Merging) (seen : Seen) (turn : ℕ × Source) → turn_in m.sources ≡ Some turn → is_late m.slack turn.1 seen.tuple.at ≡ false → AreFrom (mark_of m) m.held → AreFrom (mark_of m) (with_event m seen).held
  pub given : (mark : Option ℕ) (m : Merging) (t : Taken) → next_given m ≡ Some t → AreFrom mark m.held → (is_below mark t.0.at ≡ false) × AreFrom mark (after_given m).held
