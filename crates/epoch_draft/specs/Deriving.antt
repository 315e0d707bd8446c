-- What the making of a whole epoch does.
use Rattle.std.specs.Prelude.{◌≡◌, ℕ, ◌<◌, ◌⊎◌, if◌then◌else◌, List, [], Contains, length, Option, slice_index_or, slice_set, take}
use Rattle.std.specs.List.{All}
use Rattle.std.specs.List.Sorted.{IsPermutation}
use Rattle.event_types.specs.Order.{sorted}
use Rattle.event_types.specs.Tuple.{TupleView}
use Rattle.binding_index.specs.declared.store.Store.{Store}
use Rattle.semantics.specs.Denotation.{Streams, streams_of}
use Rattle.automaton.specs.Networks.{IsNetwork}
use Rattle.automaton.specs.States.{Net}
use Rattle.automaton.specs.Work.{is_in}
use Rattle.automaton.specs.declared.layout.Layout.{Layout}
use Rattle.epoch_laws.specs.BornLines.{BornLine}
use Rattle.epoch_laws.specs.Closing.{IsEpoch, Stores}
use Rattle.epoch_laws.specs.StoresStandFor.{Serves}
use Rattle.epoch_draft.specs.Drafts.{DraftFits, EndsIn, Grows, without}
use Rattle.epoch_draft.specs.Drawn.{Drawn, Paired}
use Rattle.epoch_draft.specs.Held.{held}
use Rattle.epoch_draft.specs.Marks.{MarksMore}
use Rattle.epoch_draft.specs.Meeting.{ListsAll, moves_of_all}
use Rattle.epoch_draft.specs.Typed.{HaveKinds, IsTyped}
use Rattle.epoch_draft.specs.declared.draft.Draft.{Draft}
use Rattle.epoch_draft.specs.declared.draft.Pair.{Pair}

-- the tuples of a derived stream were met in some order, and are its tuples in this order; the streams that were due still are, in front of those that now are, which have tuples or are the stream itself
pub record Meets (net : Net) (stores : Stores) (stream : ℕ) (old new : Draft) (pairs more : List Pair) : Type 0 where
  pub tuples : List TupleView
  pub same : IsPermutation tuples (slice_index_or old.made stream [])
  pub met : Draft
  pub grows : Grows net (moves_of_all net stores stream tuples) (without old stream) met
  pub made : new.made ≡ slice_set met.made stream tuples
  pub beads : new.beads ≡ met.beads
  pub fits : DraftFits (length old.made) (length net) new
  pub due : MarksMore old.due new.due
  pub newly_due : (other : ℕ) → Contains new.due.numbers other → Contains old.due.numbers other ⊎ (other ≡ stream) ⊎ (0 < length (slice_index_or new.made other []))
  pub lists : ListsAll net stores stream tuples pairs more

-- the tuples of a derived stream were put in order and met
pub record Derives (net : Net) (stores : Stores) (stream : ℕ) (old new : Draft) (pairs more : List Pair) : Type 0 where
  pub meets : Meets net stores stream old new pairs more
  pub ordered : sorted meets.tuples ≡ meets.tuples

-- the tuples of an epoch as far as they are made: those of the streams that are done, and the open ones of the others
abbrev pub news_of : List (List TupleView) → List (List TupleView) → List ℕ → Streams
news_of opened made done stream = if is_in done stream then slice_index_or made stream [] else slice_index_or opened stream []

-- the open tuples of these streams
abbrev pub opened_of : List (List TupleView) → List ℕ → Streams
opened_of opened done stream = if is_in done stream then slice_index_or opened stream [] else []

-- at least those streams that have open tuples are listed, maybe some more, each once
pub record AreOpened (opened : List (List TupleView)) (touched : List ℕ) : Type 0 where
  pub below : All (λ stream. stream < length opened) touched
  pub once : (place : ℕ) → place < length touched → Contains (take place touched) (slice_index_or touched place 0) → ⊥
  pub all : (stream : ℕ) → (slice_index_or opened stream [] ≡ []) ⊎ Contains touched stream

-- the network and the layout are of some lines, the streams of all ends stand in the order of work, all is typed, and no derived stream has open tuples
pub record CanDraw (net : Net) (layout : Layout) (stores : List (Option Store)) (opened : List (List TupleView)) : Type 0 where
  pub network : IsNetwork net
  pub lines : List BornLine
  pub serves : Serves net lines layout.order
  pub typed : IsTyped net layout.kinds stores
  pub kinds : HaveKinds layout.kinds (streams_of opened)
  pub as_many : length opened ≡ length layout.kinds
  pub ends : EndsIn net layout.order
  pub order : All (λ stream. stream < length layout.kinds) layout.order
  pub underived : All (λ stream. slice_index_or opened stream [] ≡ []) layout.order

-- each of these streams has its tuples in order
abbrev pub AreOrdered : List (List TupleView) → List ℕ → Type 0
AreOrdered made streams = All (λ stream. sorted (slice_index_or made stream []) ≡ slice_index_or made stream []) streams

-- the open tuples are met, and the derived streams that are done: over these tuples all is made, they are an epoch of the streams that are done, and these have theirs in order
pub record DrawnUpTo (net : Net) (layout : Layout) (stores : List (Option Store)) (opened : List (List TupleView)) (done : List ℕ) (draft : Draft) (pairs : List Pair) : Type 0 where
  pub fits : DraftFits (length layout.kinds) (length net) draft
  pub drawn : Drawn net (held stores) (news_of opened draft.made done) draft
  pub paired : Paired net (held stores) (news_of opened draft.made done) pairs
  pub epoch : IsEpoch net done (held stores) (streams_of opened) (news_of opened draft.made done)
  pub kinds : HaveKinds layout.kinds (news_of opened draft.made done)
  pub ordered : AreOrdered draft.made done
