-- What a list of calls of a merge takes and gives.
use Rattle.std.specs.Prelude.{◌≡◌, ◌↔◌, ℕ, if◌then◌else◌, List, [], ◌∷◌, ◌++◌, Option, Some, None, filter, IsPermutation}
use Rattle.event_csv.specs.declared.event.Seen.{Seen}
use Rattle.source_merge.specs.declared.source.Source.{Source}
use Rattle.source_merge.specs.Merging.{Merging, after_given, begun, late_in, next_given, ranked, taking, without_turn}
use Rattle.source_merge.specs.Ranks.{Taken, in_order}
use Rattle.source_merge.specs.Sources.{is_below, turn_in, watermark}

-- a call that changes a merge: an event is taken of the file whose turn it is, that file ends, or the next event is asked for
pub data MergeCall : Type 0 where
  Takes : Seen → MergeCall
  Ends : MergeCall
  Gives : MergeCall

-- a merge, the events that were taken, the latest first, and those that were given, in the order in which they were
pub record Merged : Type 0 where
  pub now : Merging
  pub taken : List Taken
  pub given : List Taken

-- nothing was called yet
abbrev pub unmerged : ℕ → ℕ → Merged
unmerged files slack = record { now = begun files slack; taken = []; given = [] }

-- the taken events of which no other can come before: those below the watermark, or all where all files have ended; by detection time, then by file, then by place
abbrev pub settled : ℕ → List Source → List Taken → List Taken
settled slack sources taken = filter (λ t. is_below (watermark slack sources) t.0.at) (in_order taken)

-- the same of a merge
abbrev pub settled_of : Merged → List Taken
settled_of m = settled m.now.slack m.now.sources m.taken

-- after an event of the file whose turn it is, unless it is late
abbrev pub after_taking : Merged → Seen → Option (ℕ × Source) → Merged
after_taking m seen None = m
after_taking m seen (Some turn) =
    if late_in m.now.slack (Some turn) seen.tuple.at then m
    else record { now = taking m.now seen (Some turn); taken = ranked m.now.count turn.0 seen ∷ m.taken; given = m.given }

-- after an event was asked for: it is given, if there is one
abbrev pub after_giving : Merged → Option Taken → Merged
after_giving m None = m
after_giving m (Some taken) = record { now = after_given m.now; taken = m.taken; given = m.given ++ taken ∷ [] }

-- after a call; one that is refused changes nothing
abbrev pub after_call : Merged → MergeCall → Merged
after_call m (MergeCall.Takes seen) = after_taking m seen (turn_in m.now.sources)
after_call m MergeCall.Ends = record { now = without_turn m.now; taken = m.taken; given = m.given }
after_call m MergeCall.Gives = after_giving m (next_given m.now)

-- after the calls of a list
abbrev pub after_calls : Merged → List MergeCall → Merged
after_calls m [] = m
after_calls m (call ∷ calls) = after_calls (after_call m call) calls

-- the first list is a front of the second
pub record IsFront (front all : List Taken) : Type 0 where
  pub more : List Taken
  pub is : all ≡ front ++ more

-- the given events are a front of the settled ones; the event that is given next stands behind them there; and there is none exactly where they are all
pub record GivesSettled (m : Merged) : Type 0 where
  pub front : IsFront m.given (settled_of m)
  pub next : (t : Taken) → next_given m.now ≡ Some t → IsFront (m.given ++ t ∷ []) (settled_of m)
  pub whole : next_given m.now ≡ None ↔ m.given ≡ settled_of m

-- so it is after each list of calls
abbrev pub CallsGiveSettled : Type 0
CallsGiveSettled = (files slack : ℕ) (calls : List MergeCall) → GivesSettled (after_calls (unmerged files slack) calls)

-- after each list of calls, the given events and the held ones are, up to order, those that were taken
abbrev pub CallsKeepEvents : Type 0
CallsKeepEvents =
    (files slack : ℕ) (calls : List MergeCall) →
    let m = after_calls (unmerged files slack) calls in IsPermutation m.taken (m.given ++ m.now.held)
