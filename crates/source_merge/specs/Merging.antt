-- A merge of several files, and what its calls make of it.
use Rattle.std.specs.Prelude.{◌≡◌, ℕ, ◌+◌, ◌<◌, Bool, false, if◌then◌else◌, List, [], ◌∷◌, Option, Some, None, option_map, replicate}
use Rattle.event_types.specs.Order.{put}
use Rattle.event_csv.specs.declared.event.Seen.{Seen}
use Rattle.source_merge.specs.declared.fault.TakeFault.{TakeFault}
use Rattle.source_merge.specs.declared.fault.TakeFault.TheVariants as fault
use Rattle.source_merge.specs.declared.source.Source.{Source}
use Rattle.source_merge.specs.Ranks.{Taken, taken_cmp}
use Rattle.source_merge.specs.Sources.{bound, is_below, is_late, turn_in, unread, watermark, with_end, with_time}

-- the lateness that is allowed, the files, the events that were taken and not given yet, in their order, and how many were taken
pub record Merging : Type 0 where
  pub slack : ℕ
  pub sources : List Source
  pub held : List Taken
  pub count : ℕ

-- a merge of so many files of which nothing was read
abbrev pub begun : ℕ → ℕ → Merging
begun files slack = record { slack = slack; sources = replicate files unread; held = []; count = 0 }

-- the number of the file whose turn it is; none where all have ended
abbrev pub turn_of : Merging → Option ℕ
turn_of m = option_map (λ turn. turn.0) (turn_in m.sources)

-- an event of this time is late in the file that has this turn
abbrev pub late_in : ℕ → Option (ℕ × Source) → ℕ → Bool
late_in slack None at = false
late_in slack (Some turn) at = is_late slack turn.1 at

-- an event of this time is late in the file whose turn it is
abbrev pub comes_late : Merging → ℕ → Bool
comes_late m at = late_in m.slack (turn_in m.sources) at

-- an event of a file that is taken next, and where it stands
abbrev pub ranked : ℕ → ℕ → Seen → Taken
ranked count file seen = (record { at = seen.tuple.at; file = file; place = count }, seen)

-- the merge after an event of the file that has this turn
abbrev pub taking : Merging → Seen → Option (ℕ × Source) → Merging
taking m seen None = m
taking m seen (Some turn) =
    record m { sources = with_time m.sources turn.0 turn.1 seen.tuple.at; held = put taken_cmp (ranked m.count turn.0 seen) m.held; count = m.count + 1 }

-- the merge after an event of the file whose turn it is
abbrev pub with_event : Merging → Seen → Merging
with_event m seen = taking m seen (turn_in m.sources)

-- the merge after the end of the file that has this turn
abbrev pub ending : Merging → Option (ℕ × Source) → Merging
ending m None = m
ending m (Some turn) = record m { sources = with_end m.sources turn.0 turn.1 }

-- the merge after the end of the file whose turn it is
abbrev pub without_turn : Merging → Merging
without_turn m = ending m (turn_in m.sources)

-- the first of the held events, where it is below the watermark
abbrev pub first_below : Option ℕ → List Taken → Option Taken
first_below mark [] = None
first_below mark (taken ∷ more) = if is_below mark taken.0.at then Some taken else None

-- the held events without that one
abbrev pub past_first : Option ℕ → List Taken → List Taken
past_first mark [] = []
past_first mark (taken ∷ more) = if is_below mark taken.0.at then more else taken ∷ more

-- the event that is given next, if there is one
abbrev pub next_given : Merging → Option Taken
next_given m = first_below (watermark m.slack m.sources) m.held

-- the merge after that
abbrev pub after_given : Merging → Merging
after_given m = record m { held = past_first (watermark m.slack m.sources) m.held }

-- why an event isn't taken, which comes back: it is below the bound of the file whose turn it is; or there is no memory
abbrev pub Refuses : Merging → Seen → TakeFault → Type 0
Refuses m seen (fault.Late at bound_of back) =
    (at ≡ seen.tuple.at) × (at < bound_of) × (option_map (λ turn. bound m.slack turn.1.greatest) (turn_in m.sources) ≡ Some bound_of) × (back ≡ seen)
Refuses m seen (fault.Memory back) = (comes_late m seen.tuple.at ≡ false) × (back ≡ seen)
