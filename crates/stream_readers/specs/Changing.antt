-- Readers of which those of one stream change. No public clause cites this module.
use Rattle.std.specs.Prelude.{◌≡◌, ◌≢◌, ◌++◌, ℕ, List, map}
use Rattle.std.specs.List.{flat_map}
use Rattle.std.specs.List.Sorted.{IsPermutation}
use Rattle.automaton.specs.States.{Net}
use Rattle.static_index.specs.Conditions.{Condition, with_condition, without}
use Rattle.stream_readers.specs.Filing.{Filed, filed_to, waiting_as}
use Rattle.stream_readers.specs.Finding.{plain_waits_on}
use Rattle.stream_readers.specs.Leaving.{left_by}
use Rattle.stream_readers.specs.Readers.{reader_at, targets_on}
use Rattle.stream_readers.specs.declared.reader.Reader.{Reader}
use Rattle.stream_readers.specs.declared.leaving.Gone.{Gone}

-- what reads each other stream stays
abbrev pub KeepOthers : ℕ → List Reader → List Reader → Type 0
KeepOthers stream old new = (other : ℕ) → other ≢ stream → reader_at new other ≡ reader_at old other

-- the states that wait on each stream stay
abbrev pub KeepWaits : List Reader → List Reader → Type 0
KeepWaits old new = (stream : ℕ) → (reader_at new stream).waits ≡ (reader_at old stream).waits

-- the targets of each stream stay
abbrev pub KeepTargets : List Reader → List Reader → Type 0
KeepTargets old new = (stream : ℕ) → (reader_at new stream).targets ≡ (reader_at old stream).targets

-- targets come to what reads a stream, in whatever order
pub record Files (stream : ℕ) (filed : List Filed) (old new : List Reader) : Type 0 where
  pub here : IsPermutation (reader_at new stream).targets ((reader_at old stream).targets ++ filed)
  pub others : (other : ℕ) → other ≢ stream → (reader_at new other).targets ≡ (reader_at old other).targets
  pub waits : KeepWaits old new

-- a target leaves what reads a stream
pub record Parts (stream : ℕ) (gone : Gone) (old new : List Reader) : Type 0 where
  pub here : (reader_at new stream).targets ≡ flat_map (left_by gone) (reader_at old stream).targets
  pub others : (other : ℕ) → other ≢ stream → (reader_at new other).targets ≡ (reader_at old other).targets
  pub waits : KeepWaits old new

-- a waiting state comes to what reads a stream
pub record FilesWait (stream : ℕ) (condition : Condition) (old new : List Reader) : Type 0 where
  pub here : (reader_at new stream).waits ≡ with_condition condition (reader_at old stream).waits
  pub others : (other : ℕ) → other ≢ stream → (reader_at new other).waits ≡ (reader_at old other).waits
  pub targets : KeepTargets old new

-- a waiting state leaves what reads a stream
pub record PartsWait (stream number : ℕ) (old new : List Reader) : Type 0 where
  pub here : (reader_at new stream).waits ≡ without number (reader_at old stream).waits
  pub others : (other : ℕ) → other ≢ stream → (reader_at new other).waits ≡ (reader_at old other).waits
  pub targets : KeepTargets old new

-- the readers have the targets of a network's roots
abbrev pub HaveTargets : Net → List Reader → Type 0
HaveTargets net readers = (stream : ℕ) → IsPermutation (reader_at readers stream).targets (map (filed_to net) (targets_on net stream))

-- the readers have a network's waiting states without a key to find them
abbrev pub HaveWaits : Net → List Reader → Type 0
HaveWaits net readers = (stream : ℕ) → (reader_at readers stream).waits ≡ map (waiting_as net) (plain_waits_on net stream)
